-- The one search that proves it: it refuses a mutant in a second; the default search, with no
-- answer given, takes ten.
use Rattle.std.proofs.Common.{rules}
use Rattle.md_measure.proofs.read.is_read_standing.Goals as goal

pub returns-in_default-matches : goal.returns-in_default-matches
returns-in_default-matches c = search rules
