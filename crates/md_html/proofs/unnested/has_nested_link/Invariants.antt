-- In each iteration, what was found and the result for the rest are the result for all events, and
-- the number of images is at most that of the events so far.
use Rattle.std.proofs.Common.{◌≡◌, ◌+◌, ◌≤◌, false, length}
use Rattle.std.specs.Prelude.{◌||◌}
use Rattle.md_measure.specs.Nesting.{nests}
use Rattle.md_html.proofs.unnested.has_nested_link.Given as goal

abbrev pub invariant-loop-event : goal.invariant-loop-event
invariant-loop-event l = record {
  whole : l.links.nested || nests l.links.in_link l.links.images l.rest ≡ nests false 0 l.events;
  count : l.links.images + length l.rest ≤ length l.events;
}

abbrev pub decreases-loop-event : goal.decreases-loop-event
decreases-loop-event l = length l.rest
