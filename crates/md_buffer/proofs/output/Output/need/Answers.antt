-- The one search that proves it: it refuses a mutant in a second; the default search, with no
-- answer given, takes ten.
use Rattle.std.proofs.Common.{rules}
use Rattle.md_buffer.proofs.output.Output.need.Goals as goal

pub returns-then-begins_line : goal.returns-then-begins_line
returns-then-begins_line c = search rules

pub returns-else-begins_line : goal.returns-else-begins_line
returns-else-begins_line c = search rules
