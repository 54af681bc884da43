-- The one search that proves it: it refuses a mutant sooner than a search over all known facts
-- does.
use Rattle.std.proofs.Common.{arith}
use Rattle.std.proofs.lemmas.Grind.{common_steps}
use Rattle.md_printer.proofs.printer.Printer.pop_scope.Goals as goal

pub returns-in-Some : goal.returns-in-Some
returns-in-Some c = grind (arith, common_steps)
