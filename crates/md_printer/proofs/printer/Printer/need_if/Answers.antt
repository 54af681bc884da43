-- The one search that proves it: it refuses a mutant in a second; the default search, with no
-- answer given, takes ten.
use Rattle.std.proofs.Common.{rules}
use Rattle.md_printer.proofs.printer.Printer.need_if.Goals as goal

pub returns-then-wanted : goal.returns-then-wanted
returns-then-wanted c = search rules

pub returns-else-wanted : goal.returns-else-wanted
returns-else-wanted c = search rules
