-- By the line endings.
use Rattle.md_safe.proofs.Between.{alone, split}
use Rattle.md_safe.proofs.embedding.what_follows_stands_alone.Goals as goal

pub returns-clause-alone : goal.returns-clause-alone
returns-clause-alone c = alone

pub returns-clause-split : goal.returns-clause-split
returns-clause-split c = split
