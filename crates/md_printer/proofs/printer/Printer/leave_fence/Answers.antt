-- The one search that proves it: it refuses a mutant in a second; the default search, with no
-- answer given, takes ten.
use Rattle.std.proofs.Common.{rules}
use Rattle.md_printer.proofs.printer.Printer.leave_fence.Goals as goal

pub returns-then-is_first : goal.returns-then-is_first
returns-then-is_first c = search rules

pub returns-else-is_first : goal.returns-else-is_first
returns-else-is_first c = search rules
