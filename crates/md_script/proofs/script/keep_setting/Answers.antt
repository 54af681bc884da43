-- The one search that proves it: it refuses a mutant in a second; the default search, with no
-- answer given, takes ten.
use Rattle.std.proofs.Common.{rules}
use Rattle.md_script.proofs.script.keep_setting.Goals as goal

pub returns-then-is_new-clause-kept : goal.returns-then-is_new-clause-kept
returns-then-is_new-clause-kept c = search rules
