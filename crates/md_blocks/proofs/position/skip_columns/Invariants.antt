-- What is skipped so far are columns of the spaces and tabs before the text.
use Rattle.std.proofs.Common.{◌≡◌, ◌≤◌, ◌<◌, ◌+◌, ◌%◌, ◌*◌, ◌∷◌, suc, drop, true}
use Rattle.md_blocks.specs.Rests.{columns_at, skipped_at, text_of}
use Rattle.md_blocks.specs.Leaves.{blanks}
use Rattle.md_blocks.proofs.position.skip_columns.Given as goal

abbrev pub invariant-loop-left : goal.invariant-loop-left
invariant-loop-left l = record {
  after : l.from ≤ l.at;
  text : l.text ≡ l.at + blanks (drop l.at l.line);
  tab : l.is_in_tab ≡ true → drop l.at l.line ≡ 9 ∷ drop (suc l.at) l.line;
  part : l.is_in_tab ≡ true → 0 < l.column % 4;
  enough : l.left ≤ columns_at l.column (text_of l.line l.at l.column l.is_in_tab);
  few : l.column + columns_at l.column (text_of l.line l.at l.column l.is_in_tab) ≤ 4 * l.text + 3;
  indent : columns_at l.column (text_of l.line l.at l.column l.is_in_tab) + l.columns
      ≡ columns_at l.start (text_of l.line l.from l.start l.within) + l.left;
  column : l.column + l.left ≡ l.start + l.columns;
  rest : skipped_at l.left l.column (text_of l.line l.at l.column l.is_in_tab)
      ≡ skipped_at l.columns l.start (text_of l.line l.from l.start l.within);
}

abbrev pub decreases-loop-left : goal.decreases-loop-left
decreases-loop-left l = l.left
