-- The same of a text.
use Rattle.md_safe.proofs.WholeTrees.{text-built}
use Rattle.md_safe.proofs.trees.text_is_built.Goals as goal

pub returns : goal.returns
returns c = text-built
