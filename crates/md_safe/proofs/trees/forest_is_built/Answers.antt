-- By one induction over the forest.
use Rattle.md_safe.proofs.WholeTrees.{forest-built}
use Rattle.md_safe.proofs.trees.forest_is_built.Goals as goal

pub returns : goal.returns
returns c = forest-built
