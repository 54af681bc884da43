-- Less is left each time.
use Rattle.std.proofs.Common.{length}
use Rattle.md_script.proofs.script.line_feeds.Given as goal

abbrev pub decreases-loop-rest : goal.decreases-loop-rest
decreases-loop-rest l = length l.rest
