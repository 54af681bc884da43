-- The law is `spine-names`, by induction over the nodes, which no search makes.
use Rattle.md_tree.proofs.Spines.{spine-names}
use Rattle.md_tree.proofs.laws.names_and_symbols_tell_one_spine.Goals as goal

pub returns : goal.returns
returns c = spine-names
