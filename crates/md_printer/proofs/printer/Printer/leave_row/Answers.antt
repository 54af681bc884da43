-- The tag comes after the empty cells.
use Rattle.std.proofs.Common.{[], ℕ, List, Some}
use Rattle.std.proofs.Common.{ap, sym, ◌∙◌}
use Rattle.std.specs.Prelude.{codes}
use Rattle.md_base.specs.declared.event.Name.TheVariants as names
use Rattle.md_steps.specs.State.{State}
use Rattle.md_meaning.specs.Meaning.Layout.{laid_after, on_own_line}
use Rattle.std.specs.Prelude.{drop}
use Rattle.std.specs.List.{flat_map}
use Rattle.md_meaning.specs.Meaning.Tables.{cell_of}
use Rattle.md_steps.proofs.Laid.{laid-append}
use Rattle.std.proofs.lemmas.Result.{on_ok_weaker}
use Rattle.md_printer.proofs.printer.Printer.leave_row.Goals as goal

pub returns : goal.returns
returns c =
    let old = c.args.self.now in
    let ending = c.args.ending.now in
    let cells = flat_map (cell_of old.scope.in_head []) (drop old.cells old.scope.columns) in
    let left : List ℕ → State =
    λ t. record old { text = t; ended = Some names.GfmTableRow; marker = 38 } in
    on_ok_weaker c.line.result (λ e.
    e
    ∙ ap (λ (s : State). record s { text = laid_after ending s.text (on_own_line (codes "</tr>")) })
    (c.in_ok-put_empty_cells.ensures ∙ ap (λ (s : State). record s {
      text = laid_after ending s.text
          (flat_map (cell_of s.scope.in_head []) (drop s.cells s.scope.columns));
    }) c.ends.ensures)
    ∙ ap left (sym (laid-append ending old.text cells (on_own_line (codes "</tr>")))))
    c.line.ensures
