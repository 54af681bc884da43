use Rattle.std.proofs.Common.{length, ◌-◌}
use Rattle.md_inlines.proofs.reader.Reader.read_line.Given as goal

abbrev pub decreases-loop-from : goal.decreases-loop-from
decreases-loop-from l = length l.text - l.from
