-- Each step skips the columns of a byte, or the first columns of a tab.
use Rattle.std.proofs.Common.{arith, ap, sym, ◌∙◌, ◌≡◌, ◌+◌, ◌-◌, ◌<◌, ◌≤◌, drop, get_or, length, true}
use Rattle.std.proofs.lemmas.Bool.{false≢true}
use Rattle.md_lines.specs.Lines.{is_blank}
use Rattle.md_blocks.specs.Rests.{skipped_at, text_of, columns_at, width}
use Rattle.md_blocks.specs.Leaves.{blanks}
use Rattle.md_blocks.proofs.Resting.{skip_none, skip_next, skip_within, columns_next, columns_within, blanks_next}
use Rattle.md_blocks.proofs.Resting.{blank_there, none_left, part_left}
use Rattle.md_blocks.proofs.position.skip_columns.Goals as goal

-- at a tab of which fewer columns are skipped than it has
record Facts (c : goal.Then-width-left) : Type 0 where
  within : c.loop-left.at < length c.args.line.now
  blank : is_blank (get_or c.args.line.now c.loop-left.at 0) ≡ true
  few : c.loop-left.left < width c.loop-left.column (get_or c.args.line.now c.loop-left.at 0)

facts : (c : goal.Then-width-left) → Facts c
facts c =
    let l = c.loop-left in
    record {
      within = omega (arith, c.if-at-text.true, c.requires.in_line);
      blank = blank_there c.args.line.now l.at (omega (arith, c.if-at-text.true, l.invariant.text));
      few = omega (arith, c.if-width-left.true, c.width_at-width.ensures.value);
    }

pub returns-then-width-left-clause-indent : goal.returns-then-width-left-clause-indent
returns-then-width-left-clause-indent c =
    let l = c.loop-left in
    let f = facts c in
    let step = columns_within c.args.line.now l.at l.column l.is_in_tab f.within f.blank l.invariant.tab
    l.left c.loop-left-test.true f.few in
    omega (arith, step, l.invariant.indent)

pub returns-then-width-left-clause-part : goal.returns-then-width-left-clause-part
returns-then-width-left-clause-part c = λ is.
    let l = c.loop-left in
    part_left l.column (get_or c.args.line.now l.at 0) l.left c.loop-left-test.true (facts c).few

pub returns-then-width-left-clause-rest : goal.returns-then-width-left-clause-rest
returns-then-width-left-clause-rest c =
    let l = c.loop-left in
    let f = facts c in
    sym (skip_within c.args.line.now l.at l.column l.is_in_tab f.within f.blank l.left
    c.loop-left-test.true f.few) ∙ l.invariant.rest

pub loop-left-preserved : goal.loop-left-preserved
loop-left-preserved c =
    let line = c.args.line.now in
    let l = c.loop-left in
    let there = l.invariant.text in
    let within : l.at < length line = omega (arith, c.if-at-text.true, c.requires.in_line) in
    let blank = blank_there line l.at (omega (arith, c.if-at-text.true, there)) in
    let some : 0 < l.left = c.loop-left-test.true in
    let value = c.width_at-width.ensures.value in
    let enough : width l.column (get_or line l.at 0) ≤ l.left =
    omega (arith, c.if-width-left.false, value) in
    let next : columns_at l.column (text_of line l.at l.column l.is_in_tab)
    ≡ c.width_at-width.result + columns_at (l.column + c.width_at-width.result) (drop (l.at + 1) line) =
    columns_next line l.at l.column l.is_in_tab within blank l.invariant.tab
    ∙ ap (λ w. w + columns_at (l.column + w) (drop (l.at + 1) line)) (sym value) in
    record {
      after = omega (arith, l.invariant.after);
      text = l.invariant.text ∙ blanks_next line l.at within blank;
      tab = λ is. absurd (false≢true is);
      part = λ is. absurd (false≢true is);
      enough = omega (arith, l.invariant.enough, next, c.if-width-left.false);
      few = omega (arith, l.invariant.few, next);
      indent = omega (arith, l.invariant.indent, next, c.if-width-left.false);
      column = omega (arith, l.invariant.column, c.if-width-left.false);
      rest = ap (λ w. skipped_at (l.left - w) (l.column + w) (drop (l.at + 1) line)) value
          ∙ sym (skip_next line l.at l.column l.is_in_tab within blank l.invariant.tab l.left some enough)
          ∙ l.invariant.rest;
    }

pub returns-else-at-text-clause-indent : goal.returns-else-at-text-clause-indent
returns-else-at-text-clause-indent c =
    let l = c.loop-left in
    let none : blanks (drop l.at c.args.line.now) ≡ 0 = omega (arith, c.if-at-text.false, l.invariant.text) in
    let zero = none_left c.args.line.now l.at l.column l.is_in_tab none l.invariant.tab in
    omega (arith, zero, l.invariant.enough, l.invariant.indent)

pub returns-else-at-text-clause-column : goal.returns-else-at-text-clause-column
returns-else-at-text-clause-column c =
    let l = c.loop-left in
    let none : blanks (drop l.at c.args.line.now) ≡ 0 = omega (arith, c.if-at-text.false, l.invariant.text) in
    let zero = none_left c.args.line.now l.at l.column l.is_in_tab none l.invariant.tab in
    omega (arith, zero, l.invariant.enough, l.invariant.column)

pub returns-else-at-text-clause-rest : goal.returns-else-at-text-clause-rest
returns-else-at-text-clause-rest c =
    let l = c.loop-left in
    let line = c.args.line.now in
    let none : blanks (drop l.at line) ≡ 0 = omega (arith, c.if-at-text.false, l.invariant.text) in
    let zero = none_left line l.at l.column l.is_in_tab none l.invariant.tab in
    let left : 0 ≡ l.left = omega (arith, zero, l.invariant.enough) in
    sym (skip_none l.column (text_of line l.at l.column l.is_in_tab))
    ∙ ap (λ n. skipped_at n l.column (text_of line l.at l.column l.is_in_tab)) left
    ∙ l.invariant.rest

pub returns-after-loop-left-clause-rest : goal.returns-after-loop-left-clause-rest
returns-after-loop-left-clause-rest c =
    let l = c.loop-left in
    let line = c.args.line.now in
    let left : 0 ≡ l.left = omega (arith, c.loop-left-test.false) in
    sym (skip_none l.column (text_of line l.at l.column l.is_in_tab))
    ∙ ap (λ n. skipped_at n l.column (text_of line l.at l.column l.is_in_tab)) left
    ∙ l.invariant.rest
