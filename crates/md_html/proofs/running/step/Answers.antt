-- A definition is skipped.
use Rattle.std.proofs.Common.{◌≡◌, true, refl, sym, ap, ◌∙◌}
use Rattle.std.specs.Prelude.{if◌then◌else◌}
use Rattle.md_base.specs.declared.event.Kind.TheVariants.{Enter, Exit}
use Rattle.md_steps.specs.Steps.{entered, exited, passed, is_passed}
use Rattle.md_html.proofs.running.step.Goals as goal

pub inside_at-requires : goal.inside_at-requires
inside_at-requires c = (c.args.event.name, (c.args.event, c.requires.there, c.in-Enter.is, refl))

pub returns-in-Enter : goal.returns-in-Enter
returns-in-Enter c = λ at one supplies there.
    let event = c.args.event in
    let before = c.args.printer.now in
    let same : is_passed event.name ≡ true =
    sym c.is_passed_over.ensures ∙ c.if-is_passed_over.true in (
      c.inside_at.ensures one there ∙ sym
          (ap (λ k. elim k [ Enter ↦ if is_passed event.name then one.inside else 0 | Exit ↦ 0 ])
          c.in-Enter.is ∙ ap (λ b. if b then one.inside else 0) same),
      c.pass_definition.ensures ∙ sym (ap (λ k. elim k [
        | Enter ↦
            if is_passed event.name then passed before else entered at one.facts event.name before
        | Exit ↦ exited at one.facts event.name before
      ]) c.in-Enter.is
          ∙ ap (λ b. if b then passed before else entered at one.facts event.name before) same),
    )
