-- The one search that proves it: it refuses a mutant in a second; the default search, with no
-- answer given, takes ten.
use Rattle.std.proofs.Common.{rules}
use Rattle.md_printer.proofs.tables.cell_start.Goals as goal

pub returns-in-Left-false : goal.returns-in-Left-false
returns-in-Left-false c = search rules
