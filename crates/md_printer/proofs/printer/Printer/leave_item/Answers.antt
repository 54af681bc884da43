-- The one search that proves it: it refuses a mutant in a second; the default search, with no
-- answer given, takes ten.
use Rattle.std.proofs.Common.{rules}
use Rattle.md_printer.proofs.printer.Printer.leave_item.Goals as goal

pub returns-then-ends_in_line : goal.returns-then-ends_in_line
returns-then-ends_in_line c = search rules

pub returns-else-ends_in_line : goal.returns-else-ends_in_line
returns-else-ends_in_line c = search rules
