-- Both words that change are indices of events: `FactLists` shows what they encode, by induction.
use Rattle.std.proofs.Common.{arith}
use Rattle.std.proofs.lemmas.List.{length-map}
use Rattle.md_pattern.proofs.FactLists.{by_words, no_rest, facts-closed}
use Rattle.md_pattern.proofs.facts.list.FactList.close.Goals as goal

pub returns-then-is_plain : goal.returns-then-is_plain
returns-then-is_plain c = grind (arith, no_rest, length-map, by_words, facts-closed)
