-- The one search that proves it: it refuses a mutant in a second; the default search, with no
-- answer given, takes ten.
use Rattle.std.proofs.Common.{rules}
use Rattle.md_text.proofs.names.lowered_is.Goals as goal

pub loop-a-init : goal.loop-a-init
loop-a-init c = search rules

pub loop-a-preserved : goal.loop-a-preserved
loop-a-preserved c = search rules
