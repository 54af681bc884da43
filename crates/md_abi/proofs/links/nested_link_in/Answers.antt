-- The events that were read are those of the document for which C's stand.
use Rattle.std.proofs.Common.{List, subst, sym}
use Rattle.md_base.specs.declared.event.Event.{Event}
use Rattle.md_abi.specs.Standing.{StandFor}
use Rattle.md_abi.specs.Events.{event_of}
use Rattle.md_abi.proofs.LinksLemmas.{nesting_of_read}
use Rattle.md_abi.proofs.links.nested_link_in.Goals as goal

pub returns-clause-ok : goal.returns-clause-ok
returns-clause-ok c =
    nesting_of_read c.args.events.now c.as_slice.result.now c.has_nested_link.result
    (subst (λ (read : List Event). StandFor event_of c.args.events.now read)
    (sym c.as_slice.ensures.value) c.in_ok-read.ensures.ok) c.has_nested_link.ensures
