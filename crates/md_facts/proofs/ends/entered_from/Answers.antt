-- The point of the node's entry is its start.
use Rattle.std.proofs.Common.{◌<◌, length, sym, ap, ◌∙◌, subst}
use Rattle.std.specs.Prelude.{slice_get}
use Rattle.md_facts.proofs.EndLemmas.{entry-inside, start-noticed}
use Rattle.md_facts.proofs.ends.entered_from.Goals as goal

pub event_point-requires : goal.event_point-requires
event_point-requires c =
    subst (λ es. c.args.index < length es) (sym c.events.ensures.events)
    (entry-inside c.args.checked.now c.args.index c.requires.0 c.requires.1)

pub returns : goal.returns
returns c = λ one there.
    let enters = c.requires.1 in
    c.event_point.ensures enters.0
    (ap (λ es. slice_get es c.args.index) c.events.ensures.events ∙ enters.1)
    ∙ start-noticed c.args.checked.now c.args.index c.requires.0 one enters there enters.0 enters.1
