-- The one search that proves it: it refuses a mutant in a second; the default search, with no
-- answer given, takes ten.
use Rattle.std.proofs.Common.{rules}
use Rattle.md_printer.proofs.printer.Printer.enter_html.Goals as goal

pub returns : goal.returns
returns c = search rules
