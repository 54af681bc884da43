-- The start is after the invalid byte, within the bytes.
use Rattle.std.proofs.Common.{◌≤◌, ◌<◌, ◌-◌, length}
use Rattle.md_tree.proofs.texts.parts.next_start.Given as goal

abbrev pub invariant-loop-at : goal.invariant-loop-at
invariant-loop-at l =
    (l.fault ≤ l.at) × (l.at ≤ length l.bytes) × (l.fault < length l.bytes → l.fault < l.at)

abbrev pub decreases-loop-at : goal.decreases-loop-at
decreases-loop-at l = length l.bytes - l.at
