use Rattle.std.proofs.Common.{◌-◌}
use Rattle.md_markdown.proofs.table.write_delimiters.Given as goal

abbrev pub decreases-loop-at : goal.decreases-loop-at
decreases-loop-at l = l.end - l.at
