-- The one search that proves it: it refuses a mutant in a second; the default search, with no
-- answer given, takes ten.
use Rattle.std.proofs.Common.{rules}
use Rattle.md_pattern.proofs.standings.standing_of.Goals as goal

pub returns-in-Other : goal.returns-in-Other
returns-in-Other c = search rules
