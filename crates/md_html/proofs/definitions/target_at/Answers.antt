-- The events of the definition come after its entry, up to its exit.
use Rattle.std.proofs.Common.{◌≡◌, ◌≤◌, ◌+◌, true, length, ap, ◌∙◌, arith}
use Rattle.std.proofs.lemmas.Result.{IfOk-weaker}
use Rattle.md_base.specs.declared.event.Name.TheVariants.{Definition}
use Rattle.md_facts.specs.Definitions.{within}
use Rattle.md_steps.specs.Run.{noticed, run}
use Rattle.md_steps.specs.State.{State}
use Rattle.md_steps.specs.Steps.{entered}
use Rattle.md_html.specs.Windows.{window}
use Rattle.md_html.proofs.Owns.{window-within}
use Rattle.md_html.proofs.Stepping.{definition-seen}
use Rattle.md_html.proofs.Turns.{goes-through}
use Rattle.md_html.proofs.definitions.target_at.Goals as goal

pub overflow_add-index : goal.overflow_add-index
overflow_add-index c =
    let (one, there, inner, least) = definition-seen c.args.context.now.checked.now c.args.index
    c.events-events.ensures.grammatical c.requires.enters in
    omega (arith, inner, least, ap (λ es. length es) c.events-events.ensures.events)

pub overflow_add-index-2 : goal.overflow_add-index-2
overflow_add-index-2 c =
    let (one, there, inner, least) = definition-seen c.args.context.now.checked.now c.args.index
    c.events-events.ensures.grammatical c.requires.enters in
    omega (
      arith,
      inner,
      c.inside_at-inside.ensures one there,
      ap (λ es. length es) c.events-events.ensures.events,
    )

pub run_events-requires-clause-few : goal.run_events-requires-clause-few
run_events-requires-clause-few c =
    let (one, there, inner, least) = definition-seen c.args.context.now.checked.now c.args.index
    c.events-events.ensures.grammatical c.requires.enters in
    rw (c.in_ok-enter.ensures c.requires.supplied.0 one c.requires.supplied.1 there
    ∙ ap (λ s. entered c.requires.supplied.0 one.facts Definition s) c.restart.ensures)
    (omega arith, omega arith)

pub run_events-requires-clause-within : goal.run_events-requires-clause-within
run_events-requires-clause-within c =
    let (one, there, inner, least) = definition-seen c.args.context.now.checked.now c.args.index
    c.events-events.ensures.grammatical c.requires.enters in
    omega (arith, inner, c.inside_at-inside.ensures one there)

pub returns : goal.returns
returns c =
    let handed = c.args.context.now.checked.now in
    let index = c.args.index in
    let inside = c.inside_at-inside.result in
    let (first, seen, inner, least) = definition-seen handed index
    c.events-events.ensures.grammatical c.requires.enters in
    IfOk-weaker c.target.result _ _ (λ target same at document one supplies flat there.
    let is : inside ≡ one.inside = c.inside_at-inside.ensures one there in
    let some : 1 ≤ one.inside = omega (arith, is, c.inside_at-inside.ensures first seen, least) in
    let all = noticed handed.bytes true document in
    same ∙ ap (λ (s : State). s.target) (goes-through _ at document (index + 1) _ (index + inside)
    c.enter.new.self c.run_events.new.printer supplies flat c.in_ok-run_events.ensures.far
    c.in_ok-run_events.ensures.goes
    ∙ ap (λ es. run at 0 es (window (index + 1) (index + inside) all) c.enter.new.self)
    (window-within handed.events index one.inside inside is some)
    ∙ ap (λ ts. run at 0 (within index one.inside handed.events) ts c.enter.new.self)
    (window-within all index one.inside inside is some)
    ∙ ap (λ s. run at 0 (within index one.inside handed.events) (within index one.inside all) s)
    (c.in_ok-enter.ensures at one supplies there
    ∙ ap (λ s. entered at one.facts Definition s) c.restart.ensures))) c.target.ensures
