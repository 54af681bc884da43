-- The written text, followed by the result for the rest, is the text before and the sanitized URL.
use Rattle.std.proofs.Common.{◌≡◌, ◌++◌, length, string_bytes}
use Rattle.md_text.specs.Url.{sanitized}
use Rattle.md_text.proofs.url.push_sanitized.Given as goal

abbrev pub invariant-loop-byte : goal.invariant-loop-byte
invariant-loop-byte l =
    string_bytes l.out ++ sanitized l.rest ≡ string_bytes l.fn.out ++ sanitized l.value

abbrev pub decreases-loop-byte : goal.decreases-loop-byte
decreases-loop-byte l = length l.rest
