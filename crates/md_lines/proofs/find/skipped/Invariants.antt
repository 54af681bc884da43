-- What is passed is skipped.
use Rattle.std.proofs.Common.{◌≡◌, ◌+◌, ◌-◌, ◌≤◌, drop, length}
use Rattle.std.specs.List.{prefix_len}
use Rattle.md_lines.proofs.find.skipped.Given as goal

abbrev pub invariant-loop-at : goal.invariant-loop-at
invariant-loop-at g l =
    (l.at ≤ length l.bytes) × (prefix_len (g.S.Search.skips l.fn.search) l.bytes
    ≡ l.at + prefix_len (g.S.Search.skips l.fn.search) (drop l.at l.bytes))

abbrev pub decreases-loop-at : goal.decreases-loop-at
decreases-loop-at g l = length l.bytes - l.at
