-- What is written, and after it the rest escaped, is the whole; the next byte that
-- doesn't stay is known.
use Rattle.std.proofs.Common.{◌≡◌, ◌++◌, length, take, string_bytes}
use Rattle.std.specs.List.{prefix_len}
use denote.Text.{Utf8}
use denote.Shadow.{shadow}
use Rattle.md_text.specs.Encode.{encoded}
use Rattle.md_text.specs.Kept.{is_kept}
use Rattle.md_text.proofs.escape.push_encoded.Given as goal

abbrev pub invariant-loop-index : goal.invariant-loop-index
invariant-loop-index l =
    (string_bytes l.out ++ encoded l.encode_html l.rest
    ≡ string_bytes l.fn.out ++ encoded l.encode_html l.value)
    × (take (length (string_bytes l.fn.out)) (string_bytes l.out) ≡ string_bytes l.fn.out)
    × (l.index ≡ prefix_len (is_kept l.encode_html) l.rest) × shadow (Utf8 l.rest)

abbrev pub decreases-loop-index : goal.decreases-loop-index
decreases-loop-index l = length l.rest
