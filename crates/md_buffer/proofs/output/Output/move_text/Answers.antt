-- The one search that proves it: it refuses a mutant in a second; the default search, with no
-- answer given, takes ten.
use Rattle.std.proofs.Common.{rules}
use Rattle.md_buffer.proofs.output.Output.move_text.Goals as goal

pub returns-then-is_ok-clause-left : goal.returns-then-is_ok-clause-left
returns-then-is_ok-clause-left c = search rules
