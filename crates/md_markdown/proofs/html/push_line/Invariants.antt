-- Each iteration moves forward in the line.
use Rattle.std.proofs.Common.{◌-◌}
use Rattle.md_markdown.proofs.html.push_line.Given as goal

abbrev pub decreases-loop-at : goal.decreases-loop-at
decreases-loop-at l = l.line.end - l.at
