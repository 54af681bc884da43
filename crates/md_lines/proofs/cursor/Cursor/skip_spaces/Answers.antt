-- The text after the spaces, line by line.
use Rattle.std.proofs.Common.{arith, ◌∙◌, ap, refl}
use Rattle.std.specs.Prelude.{◌||◌}
use Rattle.std.specs.List.{prefix_len}
use Rattle.md_lines.specs.Lines.{is_blank}
use Rattle.md_lines.specs.Escapes.{in_line}
use Rattle.md_lines.specs.Reading.{lines_after, text_from}
use Rattle.md_lines.specs.Texts.{begins_with_space}
use Rattle.md_lines.proofs.Reading.{none, here}
use Rattle.md_lines.proofs.Spaces as spaces
use Rattle.md_lines.proofs.cursor.Cursor.skip_spaces.Goals as goal

pub lines-init : goal.lines-init
lines-init c =
    let old = c.args.self.now in
    let e = c.skip-has_any.ensures in record {
      forward = omega arith;
      after = spaces.in_line (in_line old) _ (lines_after old) _ e.text e.later;
      any = ap (λ b. b || begins_with_space (text_from c.skip-has_any.new.self)) e.is_any
          ∙ spaces.any_first (in_line old) _ (lines_after old) _ e.text e.later;
      unindented = ap (prefix_len is_blank) e.text ∙ spaces.idem (in_line old);
      same = e.same;
    }

pub lines-preserved : goal.lines-preserved
lines-preserved c =
    let self = c.lines.self in
    let inv = c.lines.invariant in
    let line = c.next_line.new.self in
    let ended = none self.bytes.now self.at self.end c.lines-test.true in
    let later = c.next_line.ensures.text c.if-next_line.true in
    let e = c.skip.ensures in record {
      forward = omega arith;
      after = spaces.past_end (in_line self) (in_line line) _ (lines_after self) (lines_after line)
          _ ended later e.text e.later ∙ inv.after;
      any = spaces.any_past_end _ (in_line self) (in_line line) (lines_after self)
          (lines_after line) _ ended later inv.any;
      unindented = ap (prefix_len is_blank) e.text ∙ spaces.idem (in_line line);
      same = (
        e.same.0 ∙ c.next_line.ensures.same.0 ∙ inv.same.0,
        e.same.1 ∙ c.next_line.ensures.same.1 ∙ inv.same.1,
        omega arith,
      );
    }

pub returns-else-next_line-clause-any : goal.returns-else-next_line-clause-any
returns-else-next_line-clause-any c =
    let self = c.lines.self in
    spaces.only _ _ _ c.lines.invariant.any (spaces.none_at_end (in_line self) (lines_after self)
    (none self.bytes.now self.at self.end c.lines-test.true)
    (c.if-next_line.ensures.last refl))

pub returns-else-next_line-clause-text : goal.returns-else-next_line-clause-text
returns-else-next_line-clause-text c =
    let self = c.lines.self in
    ap text_from (c.if-next_line.ensures.stays refl)
    ∙ spaces.at_end (in_line self) (lines_after self)
    (none self.bytes.now self.at self.end c.lines-test.true)
    (c.if-next_line.ensures.last refl)
    ∙ c.lines.invariant.after

pub returns-after-lines-clause-any : goal.returns-after-lines-clause-any
returns-after-lines-clause-any c =
    let self = c.lines.self in
    spaces.only _ _ _ c.lines.invariant.any (spaces.none_at_byte _ (in_line self) _
    (lines_after self) (here self.bytes.now self.at self.end c.lines-test.false self.within)
    c.lines.invariant.unindented)

pub returns-after-lines-clause-text : goal.returns-after-lines-clause-text
returns-after-lines-clause-text c =
    let self = c.lines.self in
    spaces.at_byte _ (in_line self) _ (lines_after self)
    (here self.bytes.now self.at self.end c.lines-test.false self.within)
    c.lines.invariant.unindented ∙ c.lines.invariant.after
