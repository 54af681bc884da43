-- No mark is passed.
use Rattle.std.proofs.Common.{◌≡◌, ◌-◌, ◌≤◌}
use Rattle.md_marks.proofs.MarkBits.{NoneBetween}
use Rattle.md_marks.proofs.marks.Marks.next.Given as goal

abbrev pub invariant-loop-at : goal.invariant-loop-at
invariant-loop-at l =
    (l.fn.from ≤ l.at) × (l.self ≡ l.fn.self) × NoneBetween l.bytes l.fn.from l.at l.end

abbrev pub decreases-loop-at : goal.decreases-loop-at
decreases-loop-at l = l.end - l.at
