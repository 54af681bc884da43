-- The facts with the word that comes are those before, and then the fact: `FactLists` shows it by
-- induction.
use Rattle.std.proofs.Common.{rules}
use Rattle.md_pattern.proofs.FactLists.{by_words, facts-push}
use Rattle.md_pattern.proofs.facts.list.FactList.push_rare.Goals as goal

pub returns-then-len-capacity : goal.returns-then-len-capacity
returns-then-len-capacity c = search (rules, by_words, facts-push)
