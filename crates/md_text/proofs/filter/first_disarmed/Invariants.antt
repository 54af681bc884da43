-- What is passed stays, and at the next place stands a `<`.
use Rattle.std.proofs.Common.{◌≡◌, ◌-◌, ◌<◌, ◌≤◌, ◌++◌, length, take, drop, slice_index}
use Rattle.md_text.specs.Filter.{tag_filtered}
use Rattle.md_text.proofs.filter.first_disarmed.Given as goal

abbrev pub invariant-loop-at : goal.invariant-loop-at
invariant-loop-at l =
    (l.at ≤ length l.bytes)
    × (take l.at l.bytes ++ tag_filtered (drop l.at l.bytes) ≡ tag_filtered l.bytes)
    × (l.at < length l.bytes → slice_index l.bytes l.at ≡ 60)

abbrev pub decreases-loop-at : goal.decreases-loop-at
decreases-loop-at l = length l.bytes - l.at
