-- Some steps, and then a run; and a run begins with the steps that there are.
use Rattle.md_safe.proofs.Between.{tokenized, tokenized-only}
use Rattle.md_safe.proofs.embedding.what_follows_is_tokenized_alone.Goals as goal

pub returns-clause-tokenized : goal.returns-clause-tokenized
returns-clause-tokenized c = tokenized

pub returns-clause-only : goal.returns-clause-only
returns-clause-only c = tokenized-only
