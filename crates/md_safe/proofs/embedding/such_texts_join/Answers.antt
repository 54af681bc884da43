-- Some steps, and then others.
use Rattle.md_safe.proofs.Between.{join}
use Rattle.md_safe.proofs.embedding.such_texts_join.Goals as goal

pub returns : goal.returns
returns c = join
