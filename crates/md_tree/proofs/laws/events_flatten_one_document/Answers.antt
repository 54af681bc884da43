-- The law is `flatten_one`, by induction over both trees, which no search makes.
use Rattle.md_tree.proofs.Common.{Data}
use Rattle.md_tree.proofs.OneTree.{flatten_one}
use Rattle.md_tree.proofs.laws.events_flatten_one_document.Goals as goal
use Rattle.md_tree.proofs.LeastNodes.{somewhere}

pub returns : goal.returns
returns c = λ one other e. flatten_one Data somewhere one other e
