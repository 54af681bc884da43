-- The byte isn't among those tested so far.
use Rattle.std.proofs.Common.{◌≡◌, ◌≤◌, ◌-◌, true, take}
use Rattle.std.specs.List.{list_all}
use Rattle.md_page.specs.Scan.{differs}
use Rattle.md_page.proofs.scan.find_near.Given as goal

abbrev pub invariant-loop-at : goal.invariant-loop-at
invariant-loop-at l = (l.at ≤ 16) × (list_all (differs l.byte) (take l.at l.bytes) ≡ true)

abbrev pub decreases-loop-at : goal.decreases-loop-at
decreases-loop-at l = 16 - l.at
