-- The one search that proves it: it refuses a mutant in a second; the default search, with no
-- answer given, takes ten.
use Rattle.std.proofs.Common.{rules}
use Rattle.md_printer.proofs.lists.ends_in_line.Goals as goal

pub returns-in-Some-Paragraph : goal.returns-in-Some-Paragraph
returns-in-Some-Paragraph c = search rules
