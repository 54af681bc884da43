-- Going on from the present state is as going over all the events.
use Rattle.std.proofs.Common.{◌-◌}
use Rattle.md_html.specs.Stepping.{Goes}
use Rattle.md_html.proofs.running.run_events.Given as goal

abbrev pub invariant-loop-index : goal.invariant-loop-index
invariant-loop-index l = Goes l.context l.from l.index l.to l.fn.printer l.printer

abbrev pub decreases-loop-index : goal.decreases-loop-index
decreases-loop-index l = l.to - l.index
