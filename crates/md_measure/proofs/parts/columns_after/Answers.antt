-- The one search that proves it: it refuses a mutant in a second; the default search, with no
-- answer given, takes ten.
use Rattle.std.proofs.Common.{rules}
use Rattle.md_measure.proofs.parts.columns_after.Goals as goal

pub returns-in-Enter-GfmTable : goal.returns-in-Enter-GfmTable
returns-in-Enter-GfmTable c = search rules
