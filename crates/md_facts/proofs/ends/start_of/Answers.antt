-- The point of the node's entry is its start.
use Rattle.std.proofs.Common.{◌<◌, length, sym, ap, ◌∙◌, subst}
use Rattle.std.specs.Prelude.{slice_get}
use Rattle.md_facts.proofs.EndLemmas.{entry-inside, start-noticed}
use Rattle.md_facts.proofs.ends.start_of.Goals as goal

pub event_point-requires : goal.event_point-requires
event_point-requires c =
    subst (λ es. c.entry_of.result < length es) (sym c.events.ensures.events)
    (entry-inside c.args.checked.now c.entry_of.result c.requires.0
    (c.entry_of.ensures.enters c.requires.0 c.requires.1))

pub returns : goal.returns
returns c = λ one there.
    let enters = c.entry_of.ensures.enters c.requires.0 c.requires.1 in
    c.event_point.ensures enters.0
    (ap (λ es. slice_get es c.entry_of.result) c.events.ensures.events ∙ enters.1)
    ∙ start-noticed c.args.checked.now c.entry_of.result c.requires.0 one enters
    (c.entry_of.ensures.noticed one there) enters.0 enters.1
