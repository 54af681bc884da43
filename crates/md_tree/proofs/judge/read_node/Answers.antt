-- This search refuses a mutant in a second; the default one, with no answer given, takes ten.
use Rattle.std.proofs.Common.{rules}
use Rattle.md_tree.proofs.judge.read_node.Goals as goal

pub returns-in-LineEnding-clause-broken : goal.returns-in-LineEnding-clause-broken
returns-in-LineEnding-clause-broken c = search rules
