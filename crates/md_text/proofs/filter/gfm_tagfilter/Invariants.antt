-- What is written, and after it the rest filtered, is the whole.
use Rattle.std.proofs.Common.{◌≡◌, ◌++◌, length, string_bytes}
use denote.Text.{Utf8}
use denote.Shadow.{shadow}
use Rattle.md_text.specs.Filter.{tag_filtered}
use Rattle.md_text.proofs.filter.gfm_tagfilter.Given as goal

abbrev pub invariant-loop-index : goal.invariant-loop-index
invariant-loop-index l =
    (string_bytes l.out ++ tag_filtered l.rest ≡ tag_filtered l.value) × shadow (Utf8 l.rest)

abbrev pub decreases-loop-index : goal.decreases-loop-index
decreases-loop-index l = length l.rest
