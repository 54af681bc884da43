-- The one search that proves it: it refuses a mutant in a second; the default search, with no
-- answer given, takes ten.
use Rattle.std.proofs.Common.{rules}
use Rattle.md_pattern.proofs.summary.alignment.Goals as goal

pub returns-in-true-default : goal.returns-in-true-default
returns-in-true-default c = search rules
