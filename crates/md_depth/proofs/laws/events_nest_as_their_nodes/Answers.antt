-- By one induction over the nodes.
use Rattle.md_depth.proofs.Nodes.{events-nest}
use Rattle.md_depth.proofs.laws.events_nest_as_their_nodes.Goals as goal

pub returns : goal.returns
returns c = events-nest
