-- The one search that proves it: it refuses a mutant in a second; the default search, with no
-- answer given, takes ten.
use Rattle.std.proofs.Common.{rules}
use Rattle.md_html.proofs.running.is_passed_over.Goals as goal

pub returns-in-Definition : goal.returns-in-Definition
returns-in-Definition c = search rules
