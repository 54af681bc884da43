-- By its forest.
use Rattle.md_safe.proofs.Tokenized.{read-tokenized}
use Rattle.md_safe.proofs.tokens.reading_is_tokenized.Goals as goal

pub returns : goal.returns
returns c = read-tokenized
