-- A reading is such a forest.
use Rattle.md_safe.proofs.WholeTrees.{forest-built, reading-texts}
use Rattle.md_safe.proofs.trees.reading_is_built.Goals as goal

pub returns : goal.returns
returns c forest h = forest-built forest (reading-texts forest h)
