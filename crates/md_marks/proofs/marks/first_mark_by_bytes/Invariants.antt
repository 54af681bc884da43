-- No mark is passed.
use Rattle.std.proofs.Common.{length, ◌-◌, ◌≤◌}
use Rattle.md_marks.proofs.MarkBits.{NoneBetween}
use Rattle.md_marks.proofs.marks.first_mark_by_bytes.Given as goal

abbrev pub invariant-loop-at : goal.invariant-loop-at
invariant-loop-at l = (l.fn.from ≤ l.at) × (l.at ≤ length l.bytes)
    × NoneBetween l.bytes l.fn.from l.at (length l.bytes)

abbrev pub decreases-loop-at : goal.decreases-loop-at
decreases-loop-at l = length l.bytes - l.at
