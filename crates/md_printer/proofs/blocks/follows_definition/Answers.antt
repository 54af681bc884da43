-- The one search that proves it: it refuses a mutant in a second; the default search, with no
-- answer given, takes ten.
use Rattle.std.proofs.Common.{rules}
use Rattle.md_printer.proofs.blocks.follows_definition.Goals as goal

pub returns-in-Some : goal.returns-in-Some
returns-in-Some c = search rules
