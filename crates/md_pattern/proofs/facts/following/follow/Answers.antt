-- The one search that proves it: it refuses a mutant in a second; the default search, with no
-- answer given, takes ten.
use Rattle.std.proofs.Common.{rules}
use Rattle.md_pattern.proofs.facts.following.follow.Goals as goal

pub returns-clause-definitions : goal.returns-clause-definitions
returns-clause-definitions c = search rules
