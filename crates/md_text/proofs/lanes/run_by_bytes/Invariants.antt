-- What is passed passes.
use Rattle.std.proofs.Common.{◌≡◌, ◌+◌, ◌-◌, ◌≤◌, drop, length}
use Rattle.std.specs.List.{prefix_len}
use Rattle.md_text.proofs.lanes.run_by_bytes.Given as goal

abbrev pub invariant-loop-index : goal.invariant-loop-index
invariant-loop-index g l =
    (l.index ≤ length l.bytes) × (prefix_len (g.T.ByteTest.passes l.test) l.bytes
    ≡ l.index + prefix_len (g.T.ByteTest.passes l.test) (drop l.index l.bytes))

abbrev pub decreases-loop-index : goal.decreases-loop-index
decreases-loop-index g l = length l.bytes - l.index
