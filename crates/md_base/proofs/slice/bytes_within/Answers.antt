-- The one search that proves it: it refuses a mutant in a second; the default search, with no
-- answer given, takes ten.
use Rattle.std.proofs.Common.{rules}
use Rattle.md_base.proofs.slice.bytes_within.Goals as goal

pub returns-else-start-end-clause-fits : goal.returns-else-start-end-clause-fits
returns-else-start-end-clause-fits c = search rules
