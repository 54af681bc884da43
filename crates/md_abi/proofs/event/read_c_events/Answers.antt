-- A converted event is appended to those before it; the first invalid one is reported; at the end
-- all are converted. The search alone takes long.
use Rattle.std.proofs.Common.{length, ap}
use Rattle.md_abi.specs.Events.{event_of}
use Rattle.md_abi.proofs.StandingLemmas.{one_more, first_without, all_read}
use Rattle.md_abi.proofs.event.read_c_events.Goals as goal

pub loop-event-preserved : goal.loop-event-preserved
loop-event-preserved c =
    one_more event_of c.args.events.now c.loop-event.event-index c.loop-event.read.items
    c.loop-event.invariant _
    c.in-Some.event _ c.loop-event-test.true c.in-Some.ensures c.in_ok-add_event-in-Some.ensures

pub returns-in-None-clause-err : goal.returns-in-None-clause-err
returns-in-None-clause-err c =
    first_without event_of c.args.events.now c.loop-event.event-index c.loop-event.read.items
    c.loop-event.invariant _ _ c.loop-event-test.true c.in-None.ensures
    (ap length c.as_slice.ensures.value)

pub returns-clause-ok : goal.returns-clause-ok
returns-clause-ok c =
    all_read event_of c.args.events.now c.loop-event.event-index c.loop-event.read.items
    c.loop-event.invariant c.loop-event-test.false
