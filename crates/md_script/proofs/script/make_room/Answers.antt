-- The one search that proves it: it refuses a mutant in a second; the default search, with no
-- answer given, takes ten.
use Rattle.std.proofs.Common.{rules}
use Rattle.md_script.proofs.script.make_room.Goals as goal

pub returns-clause-events : goal.returns-clause-events
returns-clause-events c = search rules
