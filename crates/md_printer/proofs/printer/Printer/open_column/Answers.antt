-- A tag is the sequence of its parts.
use Rattle.std.proofs.Common.{◌∷◌, [], ap, ◌∙◌}
use Rattle.std.specs.Prelude.{codes, if◌then◌else◌}
use Rattle.md_meaning.specs.Meaning.Layout.{Needed, laid_after, on_own_line}
use Rattle.md_meaning.specs.Meaning.Tables.{align_attribute}
use Rattle.md_steps.specs.State.{State}
use Rattle.md_printer.specs.Parts.{cell_start}
use Rattle.std.proofs.lemmas.Result.{on_ok_weaker}
use Rattle.md_printer.proofs.Cells.{started}
use Rattle.md_printer.proofs.printer.Printer.open_column.Goals as goal

pub returns : goal.returns
returns c =
    let old = c.args.self.now in
    let ending = c.args.ending.now in
    let tag = if old.scope.in_head then codes "<th" else codes "<td" in
    let here = laid_after ending old.text (Needed ∷ []) in
    on_ok_weaker c.line.result (λ e.
    e ∙ ap (λ tag. record old { text = laid_after ending old.text (on_own_line tag) })
    (c.cell_start-tag.ensures
    ∙ ap (λ (s : State). cell_start s.scope.in_head c.args.kind) c.self.view_is)
    ∙ ap (λ text. record old { text = text })
    (started here tag (align_attribute c.args.kind) (codes ">"))) c.line.ensures
