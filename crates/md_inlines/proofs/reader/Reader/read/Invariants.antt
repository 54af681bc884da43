use Rattle.std.proofs.Common.{length, ◌-◌}
use Rattle.md_inlines.proofs.reader.Reader.read.Given as goal

abbrev pub decreases-loop-place : goal.decreases-loop-place
decreases-loop-place l = length l.leaf.lines.now - l.place.line
