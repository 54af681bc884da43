-- The written text, followed by the result for the rest, is the whole; the number of headings is at
-- most that of the bytes so far.
use Rattle.std.proofs.Common.{◌≡◌, ◌≤◌, ◌+◌, false, ◌++◌, [], ◌∷◌, length, map, string_bytes}
use denote.Text.{Utf8}
use denote.Shadow.{shadow}
use Rattle.md_text.specs.Html.{written_attributes}
use Rattle.md_page.specs.Scan.{scanned, picks_heading, with_new, new_given}
use Rattle.md_page.proofs.handed.with_given.Given as goal

abbrev pub invariant-loop-end : goal.invariant-loop-end
invariant-loop-end l =
    (l.number + length l.rest ≤ length l.fn.text)
    × (string_bytes l.out ++ scanned picks_heading
    (λ k. written_attributes (new_given (map string_bytes l.fn.ids) k ∷ [])) false l.number l.rest
    ≡ with_new picks_heading (new_given (map string_bytes l.fn.ids)) l.fn.text)
    × shadow (Utf8 l.rest)

abbrev pub decreases-loop-end : goal.decreases-loop-end
decreases-loop-end l = length l.rest
