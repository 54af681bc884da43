-- This search refuses a mutant in a second; the default one, with no answer given, takes ten.
use Rattle.std.proofs.Common.{rules}
use Rattle.md_tree.proofs.texts.runs_behind.Goals as goal

pub loop-start-preserved : goal.loop-start-preserved
loop-start-preserved c = search rules
