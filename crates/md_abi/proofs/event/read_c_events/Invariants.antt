-- In each iteration, the converted events, followed by those that the rest encodes, are those that
-- the whole encodes.
use Rattle.std.proofs.Common.{◌≡◌, ◌++◌, map, drop, Some}
use Rattle.md_abi.specs.Events.{event_of}
use Rattle.md_abi.proofs.event.read_c_events.Given as goal

-- the converted events, then the rest, are the whole
abbrev pub invariant-loop-event : goal.invariant-loop-event
invariant-loop-event l =
    map Some l.read.items ++ map event_of (drop l.event-index l.events) ≡ map event_of l.events
