-- Going on from the present state is as going over all the events.
use Rattle.std.proofs.Common.{◌-◌}
use Rattle.md_html.specs.Stepping.{Goes}
use Rattle.md_html.proofs.rendering_within.run_events_within.Given as goal

abbrev pub invariant-loop-index : goal.invariant-loop-index
invariant-loop-index l = Goes l.context 0 l.index l.count l.fn.printer l.printer

abbrev pub decreases-loop-index : goal.decreases-loop-index
decreases-loop-index l = l.count - l.index
