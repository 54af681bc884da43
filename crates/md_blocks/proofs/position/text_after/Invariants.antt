-- What is passed are the spaces and tabs, and the columns of these.
use Rattle.std.proofs.Common.{◌≡◌, ◌≤◌, ◌+◌, ◌-◌, ◌*◌, length, drop}
use Rattle.md_blocks.specs.Rests.{columns_at}
use Rattle.md_blocks.specs.Leaves.{blanks}
use Rattle.md_blocks.proofs.position.text_after.Given as goal

abbrev pub invariant-loop-at : goal.invariant-loop-at
invariant-loop-at l = record {
  after : l.from ≤ l.at;
  within : l.at ≤ length l.line;
  few : l.column + l.indent ≤ 4 * l.at + 3;
  text : l.from + blanks (drop l.from l.line) ≡ l.at + blanks (drop l.at l.line);
  columns : columns_at l.column (drop l.from l.line)
      ≡ l.indent + columns_at (l.column + l.indent) (drop l.at l.line);
}

abbrev pub decreases-loop-at : goal.decreases-loop-at
decreases-loop-at l = length l.line - l.at
