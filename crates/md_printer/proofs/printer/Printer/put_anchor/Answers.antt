-- The one search that proves it: it refuses a mutant sooner than a search over all known facts
-- does.
use Rattle.std.proofs.Common.{arith}
use Rattle.std.proofs.lemmas.Grind.{common_steps}
use Rattle.md_printer.proofs.printer.Printer.put_anchor.Goals as goal

pub returns : goal.returns
returns c = grind (arith, common_steps)
