-- The one search that proves it: it refuses a mutant in a second; the default search, with no
-- answer given, takes ten.
use Rattle.std.proofs.Common.{rules}
use Rattle.md_footnotes.proofs.ids.push_name.Goals as goal

pub returns-else-options : goal.returns-else-options
returns-else-options c = search rules
