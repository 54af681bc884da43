-- The one search that proves it: it refuses a mutant in a second; the default search, with no
-- answer given, takes ten.
use Rattle.std.proofs.Common.{rules}
use Rattle.md_footnotes.proofs.ids.push_occurrence.Goals as goal

pub returns-then-occurrence-eq1 : goal.returns-then-occurrence-eq1
returns-then-occurrence-eq1 c = search rules
