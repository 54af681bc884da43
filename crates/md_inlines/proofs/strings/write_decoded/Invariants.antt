use Rattle.std.proofs.Common.{length, ◌-◌}
use Rattle.md_inlines.proofs.strings.write_decoded.Given as goal

abbrev pub decreases-loop-at : goal.decreases-loop-at
decreases-loop-at l = length l.text - l.at
