-- The one search that proves it: it refuses a mutant in a second; the default search, with no
-- answer given, takes ten.
use Rattle.std.proofs.Common.{rules}
use Rattle.md_script.proofs.error.SafeRunErrorFromSafeError.from.Goals as goal

pub returns-in-Options : goal.returns-in-Options
returns-in-Options c = search rules
