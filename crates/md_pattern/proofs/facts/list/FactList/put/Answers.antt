-- What is written among the words or in the rest is written among the facts: `FactLists` shows it
-- by induction.
use Rattle.std.proofs.Common.{arith}
use Rattle.md_pattern.proofs.FactLists.{facts-put, facts-written, rest-written}
use Rattle.md_pattern.proofs.facts.list.FactList.put.Goals as goal

pub returns-in_ok-word : goal.returns-in_ok-word
returns-in_ok-word c = grind (arith, facts-written, facts-put)

pub returns-else-index-len : goal.returns-else-index-len
returns-else-index-len c = grind (arith, rest-written)
