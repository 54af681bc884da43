-- In each iteration, the events before the rest are measured.
use Rattle.std.proofs.Common.{◌≡◌, ◌++◌, length, List}
use Rattle.md_base.specs.declared.event.Event.{Event}
use Rattle.md_measure.specs.Measured.{IsMeasured}
use Rattle.md_html.proofs.work.measure.Given as goal

abbrev pub invariant-loop-event : goal.invariant-loop-event
invariant-loop-event l =
    (before : List Event) × ((before ++ l.rest ≡ l.events) × IsMeasured l.measure before)

abbrev pub decreases-loop-event : goal.decreases-loop-event
decreases-loop-event l = length l.rest
