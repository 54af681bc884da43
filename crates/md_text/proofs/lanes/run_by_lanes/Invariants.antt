-- What is passed passes.
use Rattle.std.proofs.Common.{◌≤◌, ◌-◌, length}
use Rattle.std.specs.List.{prefix_len}
use Rattle.md_text.proofs.lanes.run_by_lanes.Given as goal

abbrev pub invariant-loop-at : goal.invariant-loop-at
invariant-loop-at g l = l.at ≤ prefix_len (g.T.ByteTest.passes l.test) l.bytes

abbrev pub decreases-loop-at : goal.decreases-loop-at
decreases-loop-at g l = length l.bytes - l.at
