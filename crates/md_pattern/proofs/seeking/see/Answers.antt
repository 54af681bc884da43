-- The one search that proves it: it refuses a mutant in a second; the default search, with no
-- answer given, takes ten.
use Rattle.std.proofs.Common.{rules}
use Rattle.md_pattern.proofs.seeking.see.Goals as goal

pub returns-in-Holder : goal.returns-in-Holder
returns-in-Holder c = search rules
