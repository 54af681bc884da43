-- By one induction over the nodes for each thing that they print or use.
use Rattle.md_length.proofs.Bounded.{text-bounded}
use Rattle.md_length.proofs.laws.text_is_bounded.Goals as goal

pub returns : goal.returns
returns c = text-bounded
