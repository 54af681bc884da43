-- By computing.
use Rattle.std.proofs.Common.{refl}
use Rattle.md_safe.proofs.Between.{two_feeds}
use Rattle.md_safe.proofs.embedding.cases.split_newline.Goals as goal

pub returns-clause-before : goal.returns-clause-before
returns-clause-before c = λ after. record { count = 1; goes = refl }

pub returns-clause-not_alone : goal.returns-clause-not_alone
returns-clause-not_alone c = two_feeds
