-- No lane is marked.
use Rattle.md_base.proofs.CollapsedLemmas.{single_in}
use Rattle.md_base.proofs.collapsed.is_single_at.Goals as goal

pub returns : goal.returns
returns g c = single_in c.args.text.now c.args.at g.row.N c.requires.1 c.requires.0
