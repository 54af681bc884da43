-- The one search that proves it: it refuses a mutant in a second; the default search, with no
-- answer given, takes ten.
use Rattle.std.proofs.Common.{rules}
use Rattle.md_buffer.proofs.media.put_src.Goals as goal

pub returns-then-options-2 : goal.returns-then-options-2
returns-then-options-2 c = search rules

pub returns-else-options-2 : goal.returns-else-options-2
returns-else-options-2 c = search rules
