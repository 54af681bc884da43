-- The footnote is stored under the identifier of the facts.
use Rattle.std.proofs.Common.{◌≡◌, [], ℕ, List, Some}
use Rattle.std.proofs.Common.{refl, ap, ◌∙◌}
use Rattle.std.specs.Prelude.{string_bytes}
use Rattle.md_base.specs.declared.event.Name.TheVariants as names
use Rattle.md_steps.specs.State as states
use Rattle.md_steps.specs.Steps as steps
use Rattle.md_steps.specs.State.{State, NodeFacts}
use Rattle.std.proofs.lemmas.Result.{on_ok_weaker}
use Rattle.md_printer.proofs.Answering.{leaves-by}
use Rattle.md_printer.proofs.printer.Printer.leave_footnote.Goals as goal

pub returns : goal.returns
returns c =
    let old = c.args.self.now in
    let code = c.args.context.now in
    let back : State = record old {
      scope = steps.first_or states.outside old.scopes;
      scopes = steps.others_of old.scopes;
      ended = Some names.GfmFootnoteDefinition;
      marker = 38;
    } in
    let came : c.ends.new.self ≡ back =
    c.ends.ensures
    ∙ ap (λ (s : State). record s { ended = Some names.GfmFootnoteDefinition; marker = 38 })
    c.pop_scope.ensures in
    let left : State =
    record back { text = steps.first_or [] old.below; below = steps.others_of old.below } in
    let noting : State → List ℕ → List ℕ → State = λ s identifier text. record s {
      footnotes = steps.noted s.footnotes (record { identifier = identifier; text = text });
    } in
    let own = string_bytes c.in_ok-identifier.identifier in
    let inner = string_bytes c.in_ok-text.text in
    on_ok_weaker c.note_footnote.result
    (λ e. leaves-by code c.args.index names.GfmFootnoteDefinition names.GfmFootnoteDefinition old
    c.note_footnote.new.self refl (λ context one supplies there.
    e ∙ ap (λ s. noting s own inner) (c.in_ok-text.ensures.left ∙ ap (λ (s : State).
    record s { text = steps.first_or [] s.below; below = steps.others_of s.below }) came)
    ∙ ap (λ i. noting left i inner) (c.in_ok-identifier.ensures one there)
    ∙ ap (λ t. noting left one.facts.identifier t)
    (c.in_ok-text.ensures.text ∙ ap (λ (s : State). s.text) came))) c.note_footnote.ensures
