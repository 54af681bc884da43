-- The one search that proves it: it refuses a mutant in a second; the default search, with no
-- answer given, takes ten.
use Rattle.std.proofs.Common.{rules}
use Rattle.md_measure.proofs.links.images_after.Goals as goal

pub returns-in-Exit : goal.returns-in-Exit
returns-in-Exit c = search rules
