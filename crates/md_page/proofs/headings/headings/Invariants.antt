-- The headings found so far, followed by those of the rest, are all; their number is at most that
-- of the bytes so far.
use Rattle.std.proofs.Common.{◌≡◌, ◌≤◌, ◌+◌, ◌++◌, map, length, vec_len}
use Rattle.md_page.specs.Headings.{listed}
use Rattle.md_page.specs.Scan.{scanned_headings}
use denote.Text.{Utf8}
use denote.Shadow.{shadow}
use Rattle.md_page.proofs.headings.headings.Given as goal

abbrev pub invariant-loop-at : goal.invariant-loop-at
invariant-loop-at l =
    (vec_len l.found + length l.rest ≤ length l.fn.text)
    × (map listed l.found.items ++ scanned_headings (vec_len l.found) l.rest
    ≡ scanned_headings 0 l.fn.text) × shadow (Utf8 l.rest)

abbrev pub decreases-loop-at : goal.decreases-loop-at
decreases-loop-at l = length l.rest
