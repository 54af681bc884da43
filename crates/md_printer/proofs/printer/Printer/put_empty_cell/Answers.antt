-- A cell is the sequence of its parts.
use Rattle.std.proofs.Common.{◌∷◌, [], ap, ◌∙◌}
use Rattle.std.specs.Prelude.{codes, if◌then◌else◌}
use Rattle.md_meaning.specs.Meaning.Layout.{Needed, laid_after, on_own_line}
use Rattle.md_meaning.specs.Meaning.Tables.{align_attribute}
use Rattle.md_steps.specs.State.{State}
use Rattle.md_printer.specs.Parts.{empty_cell}
use Rattle.std.proofs.lemmas.Result.{on_ok_weaker}
use Rattle.md_printer.proofs.Cells.{emptied}
use Rattle.md_printer.proofs.printer.Printer.put_empty_cell.Goals as goal

pub returns : goal.returns
returns c =
    let old = c.args.self.now in
    let ending = c.args.ending.now in
    let tag = if old.scope.in_head then codes "<th" else codes "<td" in
    let end = if old.scope.in_head then codes "</th>" else codes "</td>" in
    let here = laid_after ending old.text (Needed ∷ []) in
    on_ok_weaker c.line.result (λ e.
    e ∙ ap (λ tag. record old { text = laid_after ending old.text (on_own_line tag) })
    (c.empty_cell-cell.ensures
    ∙ ap (λ (s : State). empty_cell s.scope.in_head c.args.kind) c.self.view_is)
    ∙ ap (λ text. record old { text = text })
    (emptied here tag (align_attribute c.args.kind) (codes ">") end)) c.line.ensures
