-- The one search that proves it: it refuses a mutant in a second; the default search, with no
-- answer given, takes ten.
use Rattle.std.proofs.Common.{rules}
use Rattle.md_page.proofs.headings.closes_heading.Goals as goal

pub returns-in-47 : goal.returns-in-47
returns-in-47 c = search rules
