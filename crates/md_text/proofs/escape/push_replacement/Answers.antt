-- The one search that proves it: it refuses a mutant in a second; the default search, with no
-- answer given, takes ten.
use Rattle.std.proofs.Common.{rules}
use Rattle.md_text.proofs.escape.push_replacement.Goals as goal

pub returns-in-60 : goal.returns-in-60
returns-in-60 c = search rules

pub returns-in-62 : goal.returns-in-62
returns-in-62 c = search rules

pub returns-in-34 : goal.returns-in-34
returns-in-34 c = search rules

pub returns-in-38 : goal.returns-in-38
returns-in-38 c = search rules

pub returns-in_default : goal.returns-in_default
returns-in_default c = search rules
