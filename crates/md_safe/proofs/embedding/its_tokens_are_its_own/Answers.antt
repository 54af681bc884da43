-- The steps that there are, and then the end.
use Rattle.md_safe.proofs.Between.{own-tokens}
use Rattle.md_safe.proofs.embedding.its_tokens_are_its_own.Goals as goal

pub returns : goal.returns
returns c = own-tokens
