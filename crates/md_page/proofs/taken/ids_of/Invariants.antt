-- Those that are found, and after them those of the rest, are all.
use Rattle.std.proofs.Common.{◌≡◌, ◌++◌, length, map, string_bytes}
use denote.Text.{Utf8}
use denote.Shadow.{shadow}
use Rattle.md_page.specs.Scan.{scanned_ids}
use Rattle.md_page.proofs.taken.ids_of.Given as goal

abbrev pub invariant-loop-before : goal.invariant-loop-before
invariant-loop-before l =
    (map string_bytes l.found.items ++ scanned_ids l.rest ≡ scanned_ids l.text)
    × shadow (Utf8 l.rest)

abbrev pub decreases-loop-before : goal.decreases-loop-before
decreases-loop-before l = length l.rest
