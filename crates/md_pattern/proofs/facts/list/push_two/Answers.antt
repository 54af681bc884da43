-- The one search that proves it: it refuses a mutant in a second; the default search, with no
-- answer given, takes ten.
use Rattle.std.proofs.Common.{rules}
use Rattle.md_pattern.proofs.facts.list.push_two.Goals as goal

pub returns-clause-pushed : goal.returns-clause-pushed
returns-clause-pushed c = search rules
