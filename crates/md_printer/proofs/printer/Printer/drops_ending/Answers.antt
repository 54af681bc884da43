-- The one search that proves it: it refuses a mutant in a second; the default search, with no
-- answer given, takes ten.
use Rattle.std.proofs.Common.{rules}
use Rattle.md_printer.proofs.printer.Printer.drops_ending.Goals as goal

pub returns-then-self : goal.returns-then-self
returns-then-self c = search rules

pub returns-else-self : goal.returns-else-self
returns-else-self c = search rules
