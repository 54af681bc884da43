-- The search that proves these, and no other: all that is tried without an answer takes
-- a second longer.
use Rattle.std.proofs.Common.{arith}
use Rattle.std.proofs.lemmas.Grind.{common_steps}
use Rattle.md_script.proofs.table.listed.Goals as goal

pub returns-then-eq : goal.returns-then-eq
returns-then-eq g c = grind (arith, common_steps)

pub loop-entry-preserved : goal.loop-entry-preserved
loop-entry-preserved g c = grind (arith, common_steps)

pub returns : goal.returns
returns g c = grind (arith, common_steps)
