-- The tables of the code are those of the definition, length by length.
use Rattle.std.proofs.lemmas.Grind.{common_steps}
use Rattle.std.proofs.Common.{arith}
use Rattle.md_base.proofs.event_names.names_by_length.Goals as goal

pub returns-clause-tables : goal.returns-clause-tables
returns-clause-tables c = grind (arith, common_steps)
