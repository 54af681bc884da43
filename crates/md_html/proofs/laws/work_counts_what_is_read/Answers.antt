-- By an induction over the nodes for each.
use Rattle.md_length.proofs.Lengths.{read-no_less, read-exact}
use Rattle.md_html.proofs.laws.work_counts_what_is_read.Goals as goal

pub returns-clause-no_less : goal.returns-clause-no_less
returns-clause-no_less c = read-no_less

pub returns-clause-exact : goal.returns-clause-exact
returns-clause-exact c = read-exact
