-- The cells so far are counted.
use Rattle.std.proofs.Common.{◌≡◌, ◌≤◌, ◌+◌, false, length}
use Rattle.md_blocks.specs.Tables.{cells_after, row_cells}
use Rattle.md_blocks.proofs.table.count_cells.Given as goal

abbrev pub invariant-loop-rest : goal.invariant-loop-rest
invariant-loop-rest l =
    (l.count + length l.rest ≤ length l.row)
    × (length (row_cells l.row) ≡ l.count + length (cells_after false l.rest))

abbrev pub decreases-loop-rest : goal.decreases-loop-rest
decreases-loop-rest l = length l.rest
