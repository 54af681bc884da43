use Rattle.std.proofs.Common.{length, ◌-◌}
use Rattle.md_marks.proofs.closings.Ticks.find_in_line.Given as goal

abbrev pub decreases-loop-at : goal.decreases-loop-at
decreases-loop-at l = length l.text - l.at
