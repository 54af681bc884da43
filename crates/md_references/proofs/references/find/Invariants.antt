use Rattle.std.proofs.Common.{◌-◌}
use Rattle.md_references.proofs.references.find.Given as goal

abbrev pub decreases-loop-low : goal.decreases-loop-low
decreases-loop-low l = l.high - l.low
