-- The one search that proves it: it refuses a mutant in a second; the default search, with no
-- answer given, takes ten.
use Rattle.std.proofs.Common.{rules}
use Rattle.md_base.proofs.identifier.normalize_identifier.Goals as goal

pub returns : goal.returns
returns c = search rules

pub returns-then-is_collapsed : goal.returns-then-is_collapsed
returns-then-is_collapsed c = search rules
