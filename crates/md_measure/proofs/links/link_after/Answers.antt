-- The one search that proves it: it refuses a mutant in a second; the default search, with no
-- answer given, takes ten.
use Rattle.std.proofs.Common.{rules}
use Rattle.md_measure.proofs.links.link_after.Goals as goal

pub returns-then-is_link : goal.returns-then-is_link
returns-then-is_link c = search rules
