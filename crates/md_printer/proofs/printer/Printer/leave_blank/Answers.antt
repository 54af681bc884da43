-- The one search that proves it: it refuses a mutant in a second; the default search, with no
-- answer given, takes ten.
use Rattle.std.proofs.Common.{rules}
use Rattle.md_printer.proofs.printer.Printer.leave_blank.Goals as goal

pub returns-then-is_last : goal.returns-then-is_last
returns-then-is_last c = search rules

pub returns-else-is_last : goal.returns-else-is_last
returns-else-is_last c = search rules
