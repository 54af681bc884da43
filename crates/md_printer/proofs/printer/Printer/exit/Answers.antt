-- The facts are those that the check found.
use Rattle.std.proofs.Common.{◌∷◌, ◌++◌, [], ℕ, List, Bool, false, Some}
use Rattle.std.proofs.Common.{ap, sym, ◌∙◌, rules}
use Rattle.std.specs.Prelude.{codes, if◌then◌else◌, ◌&&◌}
use Rattle.md_base.specs.declared.event.Name.TheVariants as names
use Rattle.md_steps.specs.Steps as steps
use Rattle.md_steps.specs.State.{State}
use Rattle.md_meaning.specs.Meaning.Layout.{Needed, laid_after, on_own_line, when}
use Rattle.md_meaning.specs.Meaning.Blocks.{heading_tag}
use Rattle.md_meaning.specs.Meaning.At.{text_in}
use Rattle.md_printer.specs.Parts as parts
use Rattle.std.proofs.lemmas.Result.{on_ok_weaker}
use Rattle.md_printer.proofs.Answering.{leaves-by}
use Rattle.md_printer.proofs.printer.Printer.exit.Goals as goal

pub returns-in-LineEnding : goal.returns-in-LineEnding
returns-in-LineEnding c =
    let old = c.args.self.now in
    let code = c.args.context.now in
    let after : List ℕ → State = λ text. record old {
      text = laid_after code.ending.now old.text (parts.line_closing old text);
      slurps = if old.scope.in_definition then old.slurps else old.scope.in_code && old.slurps;
      ended = Some names.LineEnding;
      marker = 38;
    } in
    on_ok_weaker c.leave_line_ending.result
    (λ e. leaves-by code c.args.index c.args.name names.LineEnding old c.leave_line_ending.new.self
    c.in-LineEnding.is (λ context one supplies there.
    e code.ending.now ∙ ap after (c.text_left_at-in-LineEnding.ensures one there
    ∙ ap (λ bytes. text_in bytes one.facts.place) (sym supplies.bytes))))
    c.leave_line_ending.ensures

pub returns-in-ListItem : goal.returns-in-ListItem
returns-in-ListItem c =
    on_ok_weaker c.leave_item.result
    (λ e. leaves-by c.args.context.now c.args.index c.args.name names.ListItem c.args.self.now
    c.leave_item.new.self c.in-ListItem.is (λ context one supplies there.
    e one.facts (sym (c.contributing_left_at.ensures one there))))
    c.leave_item.ensures

pub returns-in-Strong : goal.returns-in-Strong
returns-in-Strong c =
    on_ok_weaker c.leave_span-in-Strong.result (λ e context one supplies there. e context.ending
    ∙ ap (λ n. steps.exited context one.facts n c.args.self.now) (sym c.in-Strong.is))
    c.leave_span-in-Strong.ensures

pub returns-in-BlankLineEnding : goal.returns-in-BlankLineEnding
returns-in-BlankLineEnding c =
    let old = c.args.self.now in
    let code = c.args.context.now in
    let last : Bool → State = λ b. record old {
      text = laid_after code.ending.now old.text (when b (Needed ∷ []));
      slurps = if old.scope.in_definition then old.slurps else false;
      ended = Some names.BlankLineEnding;
      marker = 38;
    } in
    on_ok_weaker c.leave_blank.result
    (λ e. leaves-by code c.args.index c.args.name names.BlankLineEnding old c.leave_blank.new.self
    c.in-BlankLineEnding.is
    (λ context one supplies there. e ∙ ap last (c.is_last_at.ensures one there)))
    c.leave_blank.ensures

pub returns-in-BlockQuote : goal.returns-in-BlockQuote
returns-in-BlockQuote c =
    on_ok_weaker c.leave_quote.result
    (λ e context one supplies there. e context one.facts supplies.ending
    ∙ ap (λ n. steps.exited context one.facts n c.args.self.now) (sym c.in-BlockQuote.is))
    c.leave_quote.ensures

pub returns-in-HeadingAtx : goal.returns-in-HeadingAtx
returns-in-HeadingAtx c =
    let old = c.args.self.now in
    let ranked : ℕ → State = λ rank. record old {
      text = old.text ++ heading_tag (codes "</h") rank;
      ended = Some names.HeadingAtx;
      marker = 38;
    } in
    on_ok_weaker c.leave_heading.result
    (λ e. leaves-by c.args.context.now c.args.index c.args.name names.HeadingAtx old
    c.leave_heading.new.self c.in-HeadingAtx.is
    (λ context one supplies there. e ∙ ap ranked (c.rank_left_at.ensures one there)))
    c.leave_heading.ensures

pub returns-in-GfmTable : goal.returns-in-GfmTable
returns-in-GfmTable c =
    let code = c.args.context.now in
    let tagged : State → State = λ s. record s {
      text = laid_after code.ending.now s.text (on_own_line (codes "</table>"));
      ended = Some names.GfmTable;
      marker = 38;
    } in
    on_ok_weaker c.leave_line-in-GfmTable.result
    (λ e. leaves-by code c.args.index c.args.name names.GfmTable c.args.self.now
    c.leave_line-in-GfmTable.new.self
    c.in-GfmTable.is (λ context one supplies there. e ∙ ap tagged c.pop_scope.ensures))
    c.leave_line-in-GfmTable.ensures

pub returns-in-GfmTableHead : goal.returns-in-GfmTableHead
returns-in-GfmTableHead c =
    let code = c.args.context.now in
    let tagged : State → State = λ s. record s {
      text = laid_after code.ending.now s.text (on_own_line (codes "</thead>"));
      ended = Some names.GfmTableHead;
      marker = 38;
    } in
    on_ok_weaker c.leave_line-in-GfmTableHead.result
    (λ e. leaves-by code c.args.index c.args.name names.GfmTableHead c.args.self.now
    c.leave_line-in-GfmTableHead.new.self c.in-GfmTableHead.is
    (λ context one supplies there. e ∙ ap tagged c.pop_scope-in-GfmTableHead.ensures))
    c.leave_line-in-GfmTableHead.ensures

pub returns-in-GfmTableBody : goal.returns-in-GfmTableBody
returns-in-GfmTableBody c =
    on_ok_weaker c.leave_line-in-GfmTableBody.result
    (λ e. leaves-by c.args.context.now c.args.index c.args.name names.GfmTableBody c.args.self.now
    c.leave_line-in-GfmTableBody.new.self c.in-GfmTableBody.is (λ context one supplies there. e))
    c.leave_line-in-GfmTableBody.ensures

pub returns-in-GfmTaskListItemValueChecked : goal.returns-in-GfmTaskListItemValueChecked
returns-in-GfmTaskListItemValueChecked c =
    on_ok_weaker c.leave_span-in-GfmTaskListItemValueChecked.result
    (λ e context one supplies there. e context.ending
    ∙ ap (λ n. steps.exited context one.facts n c.args.self.now)
    (sym c.in-GfmTaskListItemValueChecked.is))
    c.leave_span-in-GfmTaskListItemValueChecked.ensures

pub returns-in-GfmFootnoteDefinition : goal.returns-in-GfmFootnoteDefinition
returns-in-GfmFootnoteDefinition c =
    on_ok_weaker c.leave_footnote.result (λ e context one supplies there. e context one supplies
    there
    ∙ ap (λ n. steps.exited context one.facts n c.args.self.now)
    (sym c.in-GfmFootnoteDefinition.is))
    c.leave_footnote.ensures

pub returns-in-Image : goal.returns-in-Image
returns-in-Image c = search rules

pub returns-in-CharacterReferenceMarkerNumeric : goal.returns-in-CharacterReferenceMarkerNumeric
returns-in-CharacterReferenceMarkerNumeric c = search rules
