-- This search refuses a mutant in a second; the default one, with no answer given, takes ten.
use Rattle.std.proofs.Common.{rules}
use Rattle.md_tree.proofs.walk.Walk.enter.Goals as goal

pub returns-in-Mdx-clause-ok : goal.returns-in-Mdx-clause-ok
returns-in-Mdx-clause-ok c = search rules
