-- All numbers from the first one on are taken, so they are at most as many as the ids.
use Rattle.std.proofs.Common.{◌≤◌, ◌+◌, ◌-◌, length}
use Rattle.md_slugs.proofs.Numbers.{AreTaken}
use Rattle.md_slugs.proofs.free.free_number.Given as goal

abbrev pub invariant-loop-id : goal.invariant-loop-id
invariant-loop-id l =
    (l.first ≤ l.number) × (l.number ≤ l.first + length l.taken.keys)
    × AreTaken l.taken l.base l.first l.number

abbrev pub decreases-loop-id : goal.decreases-loop-id
decreases-loop-id l = (l.first + length l.taken.keys) - l.number
