-- In each iteration, `visits` events have been read, by the walk and by the pass, and no more than
-- exist. Each iteration leaves fewer, so the loop ends.
use Rattle.std.proofs.Common.{◌≤◌, ◌-◌, length}
use Rattle.md_tree.proofs.Common.{HasRead}
use Rattle.md_tree.proofs.grammar.read_events.Given as goal

abbrev pub invariant-loop-event : goal.invariant-loop-event
invariant-loop-event l =
    HasRead l.input.bytes.now l.input.names.now l.input.events.now l.visits l.reader
    × (l.visits ≤ length l.input.events.now)

abbrev pub decreases-loop-event : goal.decreases-loop-event
decreases-loop-event l = length l.input.events.now - l.visits
