-- What is passed is this byte.
use Rattle.std.proofs.Common.{◌≡◌, ◌≤◌, ◌+◌, ◌-◌, length, drop, max}
use Rattle.md_blocks.specs.Marks.{run_of}
use Rattle.md_blocks.proofs.marker.run_end.Given as goal

abbrev pub invariant-loop-at : goal.invariant-loop-at
invariant-loop-at l =
    (l.from ≤ l.at) × (l.at ≤ max l.from (length l.line))
    × (l.from + run_of l.byte (drop l.from l.line) ≡ l.at + run_of l.byte (drop l.at l.line))

abbrev pub decreases-loop-at : goal.decreases-loop-at
decreases-loop-at l = length l.line - l.at
