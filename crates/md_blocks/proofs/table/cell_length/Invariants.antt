-- What is passed is no bar.
use Rattle.std.proofs.Common.{◌≡◌, ◌≤◌, ◌+◌, ◌-◌, ◌==◌, not, length, drop}
use Rattle.std.specs.List.{prefix_len}
use Rattle.md_blocks.proofs.table.cell_length.Given as goal

abbrev pub invariant-loop-end : goal.invariant-loop-end
invariant-loop-end l =
    (l.end ≤ length l.row)
    × (prefix_len (λ byte. not (byte == 124)) l.row
    ≡ l.end + prefix_len (λ byte. not (byte == 124)) (drop l.end l.row))

abbrev pub decreases-loop-end : goal.decreases-loop-end
decreases-loop-end l = length l.row - l.end
