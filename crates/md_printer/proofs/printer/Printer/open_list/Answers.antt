-- The tag with the number in it.
use Rattle.std.proofs.Common.{◌++◌, ℕ, List}
use Rattle.std.proofs.Common.{None, ap, sym, ◌∙◌}
use Rattle.std.specs.Prelude.{codes}
use Rattle.md_steps.specs.Sides as sides
use Rattle.md_steps.specs.State.{State}
use Rattle.md_meaning.specs.Meaning.Layout.{laid_after, said, on_own_line}
use Rattle.md_steps.proofs.Laid.{laid-append}
use Rattle.std.proofs.lemmas.Result.{on_ok_weaker}
use Rattle.md_printer.proofs.printer.Printer.open_list.Goals as goal

pub returns : goal.returns
returns c =
    let old = c.args.self.now in
    let ending = c.args.context.now.ending.now in
    let tag : List ℕ = laid_after ending old.text (on_own_line (codes "<ol")) in
    let entered : List ℕ → State = λ t. record old { text = t; ended = None; marker = 38 } in
    on_ok_weaker c.put.result (λ e all one supplies there.
    let more = sides.list_opening all one.facts in
    e ∙ ap (λ (s : State). record s { text = s.text ++ codes ">" })
    (c.in_ok-open_start.ensures all one supplies there ending
    ∙ ap (λ (s : State). record s { text = laid_after ending s.text more })
    c.in_ok-enter_line.ensures)
    ∙ ap entered (sym (laid-append ending tag more (said (codes ">"))))) c.put.ensures
