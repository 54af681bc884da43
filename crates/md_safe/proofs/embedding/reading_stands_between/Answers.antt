-- Two texts that are joined, and what follows.
use Rattle.md_safe.proofs.Between.{between, between-tokenized}
use Rattle.md_safe.proofs.embedding.reading_stands_between.Goals as goal

pub returns-clause-any : goal.returns-clause-any
returns-clause-any c = between

pub returns-clause-tokenized : goal.returns-clause-tokenized
returns-clause-tokenized c = between-tokenized
