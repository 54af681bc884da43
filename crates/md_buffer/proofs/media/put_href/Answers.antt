-- The one search that proves it: it refuses a mutant in a second; the default search, with no
-- answer given, takes ten.
use Rattle.std.proofs.Common.{rules}
use Rattle.md_buffer.proofs.media.put_href.Goals as goal

pub returns-then-options : goal.returns-then-options
returns-then-options c = search rules

pub returns-else-options : goal.returns-else-options
returns-else-options c = search rules
