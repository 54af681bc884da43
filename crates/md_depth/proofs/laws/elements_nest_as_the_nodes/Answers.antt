-- By one induction over the document, beside that of its readings.
use Rattle.md_depth.proofs.WholeMoves.{elements-nest}
use Rattle.md_depth.proofs.laws.elements_nest_as_the_nodes.Goals as goal

pub returns : goal.returns
returns c = elements-nest
