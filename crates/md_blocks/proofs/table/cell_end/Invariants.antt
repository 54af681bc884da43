-- No byte that is passed ends the cell.
use Rattle.std.proofs.Common.{◌≡◌, ◌≤◌, ◌+◌, ◌-◌, ◌==◌, ◌&&◌, false, length, drop, get_or, max, nat_lt}
use Rattle.md_blocks.specs.Tables.{bar_at}
use Rattle.md_blocks.proofs.table.cell_end.Given as goal

abbrev pub invariant-loop-to : goal.invariant-loop-to
invariant-loop-to l =
    (l.at ≤ l.to) × (l.to ≤ max l.at (length l.row))
    × (l.at + bar_at false (drop l.at l.row)
    ≡ l.to + bar_at (nat_lt l.at l.to && get_or l.row (l.to - 1) 0 == 92) (drop l.to l.row))

abbrev pub decreases-loop-to : goal.decreases-loop-to
decreases-loop-to l = length l.row - l.to
