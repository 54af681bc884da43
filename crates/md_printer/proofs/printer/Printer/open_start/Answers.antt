-- The number is that of the list, by the facts.
use Rattle.std.proofs.Common.{◌∷◌, [], ℕ, List, not, Option}
use Rattle.std.proofs.Common.{ap, sym, ◌∙◌}
use Rattle.std.specs.Prelude.{codes}
use Rattle.std.specs.Prelude.{bytes_eq}
use Rattle.md_base.specs.declared.event.Position.{Position}
use Rattle.md_steps.specs.Sides as sides
use Rattle.md_steps.specs.State.{State}
use Rattle.md_meaning.specs.Meaning.Layout.{Text, laid_after, when}
use Rattle.md_meaning.specs.Meaning.At.{text_in}
use Rattle.md_meaning.specs.Meaning.Blocks.{without_zeros}
use Rattle.std.proofs.lemmas.Result.{on_ok_weaker}
use Rattle.md_printer.proofs.printer.Printer.open_start.Goals as goal

pub returns-in-Some : goal.returns-in-Some
returns-in-Some c =
    let old = c.args.self.now in
    let place = c.in-Some.place in
    on_ok_weaker c.open_number.result (λ e all one supplies there ending.
    let with : List ℕ → State = λ digits. record old {
      text = laid_after ending old.text (when (not (bytes_eq digits (codes "1")))
          (Text (codes " start=\"") ∷ Text digits ∷ Text (codes "\"") ∷ []));
    } in
    e ending
    ∙ ap with (c.without_zeros.ensures ∙ ap without_zeros (c.text_of_leaf-digits.ensures
    ∙ ap (λ bytes. text_in bytes place) (sym supplies.bytes)))
    ∙ ap (λ (o : Option Position). record old {
      text = laid_after ending old.text (sides.list_opening all (record one.facts { number = o }));
    }) (sym c.in-Some.is ∙ c.number_at.ensures one there)) c.open_number.ensures

pub returns-in-None : goal.returns-in-None
returns-in-None c = λ all one supplies there ending.
    let old = c.args.self.now in
    ap (λ (o : Option Position). record old {
      text = laid_after ending old.text (sides.list_opening all (record one.facts { number = o }));
    }) (sym c.in-None.is ∙ c.number_at.ensures one there)
