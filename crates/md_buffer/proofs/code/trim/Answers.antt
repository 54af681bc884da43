-- The one search that proves it: it refuses a mutant in a second; the default search, with no
-- answer given, takes ten.
use Rattle.std.proofs.Common.{rules}
use Rattle.md_buffer.proofs.code.trim.Goals as goal

pub returns-then-is_padded : goal.returns-then-is_padded
returns-then-is_padded c = search rules

pub returns-else-is_padded : goal.returns-else-is_padded
returns-else-is_padded c = search rules
