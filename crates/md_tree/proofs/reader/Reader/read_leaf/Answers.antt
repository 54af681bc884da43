-- This search refuses a mutant in a second; the default one, with no answer given, takes ten.
use Rattle.std.proofs.Common.{rules}
use Rattle.md_tree.proofs.reader.Reader.read_leaf.Goals as goal

pub read_named-requires-in-SpaceOrTab-clause-here :
    goal.read_named-requires-in-SpaceOrTab-clause-here
read_named-requires-in-SpaceOrTab-clause-here c = search rules

pub read_named-requires-in-SpaceOrTab-clause-leaf :
    goal.read_named-requires-in-SpaceOrTab-clause-leaf
read_named-requires-in-SpaceOrTab-clause-leaf c = search rules
