-- The text continues up to the beginning of the next part.
use Rattle.std.proofs.Common.{◌≤◌, ◌-◌, length, slice_range}
use Rattle.md_tree.proofs.Common.{IsUtf8}
use Rattle.md_tree.proofs.texts.parts.text_end_by_parts.Given as goal

abbrev pub invariant-loop-at : goal.invariant-loop-at
invariant-loop-at l =
    (l.start ≤ l.at) × (l.at ≤ length l.bytes) × IsUtf8 (slice_range l.bytes l.start l.at)
    × (1024 ≤ l.size) × (l.size ≤ 4096)

abbrev pub decreases-loop-at : goal.decreases-loop-at
decreases-loop-at l = length l.bytes - l.at
