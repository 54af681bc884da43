-- By the same induction, with links that hold no links.
use Rattle.md_safe.proofs.ContainedWhole.{meaning-unnested}
use Rattle.md_safe.proofs.laws.links_nest_as_in_the_document.Goals as goal

pub returns : goal.returns
returns c = meaning-unnested
