-- With no white space at the ends and single spaces between, nothing is to be collapsed.
use Rattle.std.proofs.Common.{arith}
use Rattle.md_base.proofs.CollapsedLemmas.{collapsed-single, unblank}
use Rattle.md_base.proofs.collapsed.is_collapsed.Goals as goal

pub returns : goal.returns
returns c single = grind (arith, collapsed-single, unblank)
