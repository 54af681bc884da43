-- The cells so far delimit columns, and are counted.
use Rattle.std.proofs.Common.{◌≡◌, ◌≤◌, ◌+◌, length}
use Rattle.std.specs.List.{list_all}
use Rattle.md_blocks.specs.Leaves.{cells, delimiters, is_delimiter}
use Rattle.md_blocks.proofs.table.delimiter_columns.Given as goal

abbrev pub invariant-loop-first : goal.invariant-loop-first
invariant-loop-first l =
    (l.columns + length l.rest ≤ length l.text)
    × (list_all is_delimiter (delimiters l.text) ≡ list_all is_delimiter (cells l.rest))
    × (length (delimiters l.text) ≡ l.columns + length (cells l.rest))

abbrev pub decreases-loop-first : goal.decreases-loop-first
decreases-loop-first l = length l.rest
