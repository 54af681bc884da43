-- The call is counted under the identifier of the facts.
use Rattle.std.proofs.Common.{◌∷◌, ◌++◌, [], ℕ, List, not, Some}
use Rattle.std.proofs.Common.{refl, ap, sym, ◌∙◌}
use Rattle.std.specs.Prelude.{string_bytes}
use Rattle.md_base.specs.declared.event.Name.TheVariants as names
use Rattle.md_steps.specs.Sides as sides
use Rattle.md_steps.specs.Steps as steps
use Rattle.md_steps.specs.State.{State}
use Rattle.md_meaning.specs.Meaning.Layout.{laid_after, when}
use Rattle.md_text.specs.declared.options.CompileOptions.{CompileOptions}
use Rattle.std.proofs.lemmas.Result.{on_ok_weaker}
use Rattle.md_printer.proofs.Answering.{leaves-by}
use Rattle.md_printer.proofs.printer.Printer.leave_call.Goals as goal

pub returns : goal.returns
returns c =
    let old = c.args.self.now in
    let code = c.args.context.now in
    let left : State = record old {
      text = steps.first_or [] old.below;
      below = steps.others_of old.below;
      ended = Some names.GfmFootnoteCall;
      marker = 38;
    } in
    let printed : State → CompileOptions → List ℕ → State = λ s options identifier. record s {
      text = laid_after code.ending.now s.text (when (not s.scope.in_image)
          (sides.call_pieces options s.calls identifier));
    } in
    let counted : State → List ℕ → State =
    λ s identifier. record s { calls = s.calls ++ identifier ∷ [] } in
    on_ok_weaker c.count_call.result
    (λ e. leaves-by code c.args.index names.GfmFootnoteCall names.GfmFootnoteCall old
    c.count_call.new.self refl (λ context one supplies there.
    let identifier = one.facts.identifier in
    let own = string_bytes c.in_ok-identifier.identifier in
    e ∙ ap (λ s. counted s own) (c.in_ok-put_call.ensures code.ending.now
    ∙ ap (λ s. printed s code.options.now c.as_str.result.now) c.in_ok-leave_dropped.ensures)
    ∙ ap (λ i. counted (printed left code.options.now i) own) c.as_str.ensures.value
    ∙ ap (λ i. counted (printed left code.options.now i) i) (c.in_ok-identifier.ensures one there)
    ∙ ap (λ o. counted (printed left o identifier) identifier) (sym supplies.options)))
    c.count_call.ensures
