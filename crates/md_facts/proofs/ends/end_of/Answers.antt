-- The point of the exit is the end of its node.
use Rattle.std.proofs.Common.{◌<◌, length, sym, ap, ◌∙◌, subst}
use Rattle.std.specs.Prelude.{slice_get}
use Rattle.md_facts.proofs.EndLemmas.{exit-inside, end-noticed}
use Rattle.md_facts.proofs.ends.end_of.Goals as goal

pub event_point-requires : goal.event_point-requires
event_point-requires c =
    subst (λ es. c.args.index < length es) (sym c.events.ensures.events)
    (exit-inside c.args.checked.now c.args.index c.requires.0 c.requires.1)

pub returns : goal.returns
returns c = λ one there.
    let exits = c.requires.1 in
    c.event_point.ensures exits.0
    (ap (λ es. slice_get es c.args.index) c.events.ensures.events ∙ exits.1)
    ∙ end-noticed c.args.checked.now c.args.index c.requires.0 one exits there exits.0 exits.1
