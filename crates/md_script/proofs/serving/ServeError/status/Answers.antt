-- The one search that proves it: it refuses a mutant in a second; the default search, with no
-- answer given, takes ten.
use Rattle.std.proofs.Common.{rules}
use Rattle.md_script.proofs.serving.ServeError.status.Goals as goal

pub returns-in-Input : goal.returns-in-Input
returns-in-Input c = search rules
