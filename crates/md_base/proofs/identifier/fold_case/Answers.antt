-- The one search that proves it: it refuses a mutant in a second; the default search, with no
-- answer given, takes ten.
use Rattle.std.proofs.Common.{rules}
use Rattle.md_base.proofs.identifier.fold_case.Goals as goal

pub returns-then-is_lowered : goal.returns-then-is_lowered
returns-then-is_lowered c = search rules
