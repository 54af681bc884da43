-- The facts are those that the check found.
use Rattle.std.proofs.Common.{◌∷◌, ◌++◌, [], ℕ, List, Bool, true, false, not}
use Rattle.std.proofs.Common.{None, ap, ◌∙◌}
use Rattle.std.specs.Prelude.{codes}
use Rattle.md_base.specs.declared.event.Name.TheVariants as names
use Rattle.md_steps.specs.Sides as sides
use Rattle.md_steps.specs.State.{State}
use Rattle.md_meaning.specs.Meaning.Layout.{laid_after, said, when, on_own_line}
use Rattle.md_base.specs.declared.event.AlignKind.{AlignKind}
use Rattle.md_meaning.specs.Meaning.Blocks.{heading_tag}
use Rattle.std.proofs.lemmas.Result.{on_ok_weaker}
use Rattle.md_printer.proofs.Answering.{enters-by}
use Rattle.md_printer.proofs.printer.Printer.enter.Goals as goal

pub returns-in_ok-enter_line-in-ListUnordered : goal.returns-in_ok-enter_line-in-ListUnordered
returns-in_ok-enter_line-in-ListUnordered c =
    let old = c.args.self.now in
    let code = c.args.context.now in
    let loose : State → Bool → State = λ s b. record s {
      scope = record s.scope { is_contained = true; is_tight = not b };
      scopes = s.scope ∷ s.scopes;
    } in
    let tagged : State = record old {
      text = laid_after code.ending.now old.text (on_own_line (codes "<ul>"));
      ended = None;
      marker = 38;
    } in
    on_ok_weaker c.push_list.result
    (λ e. enters-by code c.args.index c.args.name names.ListUnordered old c.push_list.new.self
    c.in-ListUnordered.is (λ context one supplies there.
    e ∙ ap (λ s. loose s c.is_loose_at.result) c.in_ok-enter_line-in-ListUnordered.ensures
    ∙ ap (loose tagged) (c.is_loose_at.ensures one there))) c.push_list.ensures

pub returns-in_ok-open_list-in-ListOrdered : goal.returns-in_ok-open_list-in-ListOrdered
returns-in_ok-open_list-in-ListOrdered c =
    let old = c.args.self.now in
    let code = c.args.context.now in
    let loose : State → Bool → State = λ s b. record s {
      scope = record s.scope { is_contained = true; is_tight = not b };
      scopes = s.scope ∷ s.scopes;
    } in
    on_ok_weaker c.push_list-in-ListOrdered.result
    (λ e. enters-by code c.args.index c.args.name names.ListOrdered old
    c.push_list-in-ListOrdered.new.self c.in-ListOrdered.is (λ context one supplies there.
    let tagged : State = record old {
      text = laid_after code.ending.now old.text (on_own_line (codes "<ol")
          ++ (sides.list_opening context one.facts ++ said (codes ">")));
      ended = None;
      marker = 38;
    } in
    e ∙ ap (λ s. loose s c.is_loose_at-in-ListOrdered.result)
    (c.in_ok-open_list-in-ListOrdered.ensures context one supplies there)
    ∙ ap (loose tagged) (c.is_loose_at-in-ListOrdered.ensures one there)))
    c.push_list-in-ListOrdered.ensures

pub returns-in-HeadingAtx : goal.returns-in-HeadingAtx
returns-in-HeadingAtx c =
    let old = c.args.self.now in
    let code = c.args.context.now in
    let ranked : ℕ → State = λ rank. record old {
      text = laid_after code.ending.now old.text (on_own_line (heading_tag (codes "<h") rank));
      ended = None;
      marker = 38;
    } in
    on_ok_weaker c.enter_heading.result
    (λ e. enters-by code c.args.index c.args.name names.HeadingAtx old c.enter_heading.new.self
    c.in-HeadingAtx.is (λ context one supplies there. e ∙ ap ranked (c.rank_at.ensures one there)))
    c.enter_heading.ensures

pub returns-in-CodeIndented : goal.returns-in-CodeIndented
returns-in-CodeIndented c =
    on_ok_weaker c.enter_raw.result
    (λ e. enters-by c.args.context.now c.args.index c.args.name names.CodeIndented
    c.args.self.now c.enter_raw.new.self
    c.in-CodeIndented.is (λ context one supplies there. e)) c.enter_raw.ensures

pub returns-in-CodeFenced : goal.returns-in-CodeFenced
returns-in-CodeFenced c =
    on_ok_weaker c.enter_raw-in-CodeFenced.result
    (λ e. enters-by c.args.context.now c.args.index c.args.name names.CodeFenced
    c.args.self.now c.enter_raw-in-CodeFenced.new.self
    c.in-CodeFenced.is (λ context one supplies there. e))
    c.enter_raw-in-CodeFenced.ensures

pub returns-in-MathFlow : goal.returns-in-MathFlow
returns-in-MathFlow c =
    on_ok_weaker c.enter_raw-in-MathFlow.result
    (λ e. enters-by c.args.context.now c.args.index c.args.name names.MathFlow
    c.args.self.now c.enter_raw-in-MathFlow.new.self
    c.in-MathFlow.is (λ context one supplies there. e))
    c.enter_raw-in-MathFlow.ensures

pub returns-in_ok-enter_line-in-GfmTable : goal.returns-in_ok-enter_line-in-GfmTable
returns-in_ok-enter_line-in-GfmTable c =
    let old = c.args.self.now in
    let code = c.args.context.now in
    let inside : State → List AlignKind → State = λ s columns. record s {
      scope = record s.scope { in_table = true; columns = columns };
      scopes = s.scope ∷ s.scopes;
    } in
    let tagged : State = record old {
      text = laid_after code.ending.now old.text (on_own_line (codes "<table>"));
      ended = None;
      marker = 38;
    } in
    on_ok_weaker c.push_table.result
    (λ e. enters-by code c.args.index c.args.name names.GfmTable old c.push_table.new.self
    c.in-GfmTable.is (λ context one supplies there.
    e ∙ ap (λ s. inside s c.columns_at.result.now) c.in_ok-enter_line-in-GfmTable.ensures
    ∙ ap (inside tagged) (c.columns_at.ensures one there))) c.push_table.ensures

pub returns-in-MathText : goal.returns-in-MathText
returns-in-MathText c =
    let old = c.args.self.now in
    let code = c.args.context.now in
    let inside : State → State = λ s. record s {
      text = [];
      below = laid_after code.ending.now s.text (when (not s.scope.in_image)
          (said (codes "<code class=\"language-math math-inline\">"))) ∷ s.below;
      scope = record s.scope { in_code = true };
      scopes = s.scope ∷ s.scopes;
    } in
    on_ok_weaker c.enter_code-in-MathText.result
    (λ e. enters-by code c.args.index c.args.name names.MathText old
    c.enter_code-in-MathText.new.self c.in-MathText.is (λ context one supplies there.
    e code.ending.now ∙ ap inside c.enters-in-MathText.ensures))
    c.enter_code-in-MathText.ensures
