-- This search refuses a mutant in a second; the default one, with no answer given, takes ten.
use Rattle.std.proofs.Common.{rules}
use Rattle.md_tree.proofs.checked.Checked.first_ending.Goals as goal

pub returns-clause-index : goal.returns-clause-index
returns-clause-index c = search rules

pub returns-clause-grammatical : goal.returns-clause-grammatical
returns-clause-grammatical c = search rules
