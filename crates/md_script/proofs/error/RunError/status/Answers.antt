-- The one search that proves it: it refuses a mutant in a second; the default search, with no
-- answer given, takes ten.
use Rattle.std.proofs.Common.{rules}
use Rattle.md_script.proofs.error.RunError.status.Goals as goal

pub returns-in-Event : goal.returns-in-Event
returns-in-Event c = search rules
