-- Node after node.
use Rattle.md_safe.proofs.Between.{in_place}
use Rattle.md_safe.proofs.tokens.forest_is_tokenized_in_its_place.Goals as goal

pub returns : goal.returns
returns c = in_place
