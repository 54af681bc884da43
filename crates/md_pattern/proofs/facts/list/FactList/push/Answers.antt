-- A word that comes is a fact that comes: `FactLists` shows it by induction.
use Rattle.std.proofs.Common.{arith}
use Rattle.md_pattern.proofs.FactLists.{facts-pushed}
use Rattle.md_pattern.proofs.facts.list.FactList.push.Goals as goal

pub returns-then-partner-lt-WORDS : goal.returns-then-partner-lt-WORDS
returns-then-partner-lt-WORDS c = grind (arith, facts-pushed)
