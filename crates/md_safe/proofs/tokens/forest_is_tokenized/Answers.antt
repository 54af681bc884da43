-- Node after node.
use Rattle.md_safe.proofs.Between.{whole}
use Rattle.md_safe.proofs.tokens.forest_is_tokenized.Goals as goal

pub returns : goal.returns
returns c = whole
