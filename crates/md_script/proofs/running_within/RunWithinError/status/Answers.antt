-- The one search that proves it: it refuses a mutant in a second; the default search, with no
-- answer given, takes ten.
use Rattle.std.proofs.Common.{rules}
use Rattle.md_script.proofs.running_within.RunWithinError.status.Goals as goal

pub returns-in-TooMuch : goal.returns-in-TooMuch
returns-in-TooMuch c = search rules
