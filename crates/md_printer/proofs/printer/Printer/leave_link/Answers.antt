-- The target is that of its resource, or of its definition.
use Rattle.std.proofs.Common.{◌≡◌, ◌++◌, [], ℕ, List, false, Some}
use Rattle.std.proofs.Common.{refl, ap, sym, ◌∙◌}
use Rattle.std.specs.Prelude.{codes, if◌then◌else◌}
use Rattle.md_base.specs.declared.event.Name.TheVariants as names
use Rattle.md_steps.specs.State as states
use Rattle.md_steps.specs.Sides as sides
use Rattle.md_steps.specs.Steps as steps
use Rattle.md_steps.specs.State.{State, NodeFacts}
use Rattle.md_meaning.specs.Meaning.Layout.{laid_after, said}
use Rattle.md_text.specs.declared.options.CompileOptions.{CompileOptions}
use Rattle.md_meaning.specs.Meaning.At.{Target}
use Rattle.md_meaning.specs.Meaning.Media.{anchor}
use Rattle.md_buffer.specs.LinkHeads.{anchor_head}
use Rattle.md_printer.proofs.LinkHeads.{anchor-laid}
use Rattle.std.proofs.lemmas.Result.{on_ok_weaker}
use Rattle.md_printer.proofs.Answering.{leaves-by}
use Rattle.md_printer.proofs.printer.Printer.leave_link.Goals as goal

pub returns : goal.returns
returns c =
    let old = c.args.self.now in
    let code = c.args.context.now in
    let scope = steps.first_or states.outside old.scopes in
    let under = steps.first_or [] old.below in
    let left : State = record old {
      scope = scope;
      scopes = steps.others_of old.scopes;
      ended = Some names.Link;
      marker = 38;
    } in
    let came : c.ends.new.self ≡ left =
    c.ends.ensures
    ∙ ap (λ (s : State). record s { ended = Some names.Link; marker = 38 }) c.pop_scope.ensures in
    let printed : State → CompileOptions → Target → State = λ s options target. record s {
      text = steps.first_or [] s.below ++ (anchor_head options target ++ (s.text ++ codes "</a>"));
      below = steps.others_of s.below;
    } in
    let laid : List ℕ → State = λ t. record left { text = t; below = steps.others_of old.below } in
    let shown : scope.in_image ≡ false =
    sym (ap (λ (s : State). s.scope.in_image) came) ∙ sym c.is_in_image-is_label_alone.ensures
    ∙ c.if-is_label_alone.false in
    on_ok_weaker c.put_link.result
    (λ e. leaves-by code c.args.index names.Link names.Link old c.put_link.new.self refl
    (λ context one supplies there.
    let target = sides.leads context left one.facts in
    let pieces = anchor context.options target old.text in
    e ∙ ap (λ t. printed c.ends.new.self code.options.now t)
    (c.referred_target-found.ensures context one supplies there)
    ∙ ap (λ s. printed s code.options.now (sides.leads context s one.facts)) came
    ∙ ap (λ o. printed left o target) (sym supplies.options)
    ∙ ap laid (sym (anchor-laid code.ending.now under context.options target old.text))
    ∙ ap (λ b. laid (laid_after code.ending.now under (if b then said old.text else pieces)))
    (sym shown))) c.put_link.ensures
