-- The one search that proves it: it refuses a mutant in a second; the default search, with no
-- answer given, takes ten.
use Rattle.std.proofs.Common.{rules}
use Rattle.md_printer.proofs.printer.Printer.leave_line_ending.Goals as goal

pub returns-then-self : goal.returns-then-self
returns-then-self c = search rules

pub returns-then-is_dropped : goal.returns-then-is_dropped
returns-then-is_dropped c = search rules

pub returns-else-is_dropped : goal.returns-else-is_dropped
returns-else-is_dropped c = search rules
