-- A list is loose where it is so without its items, or has a loose item: the first is enough.
use Rattle.std.proofs.Common.{◌||◌, ap}
use Rattle.md_pattern.specs.Looseness.{has_loose_item}
use Rattle.md_tree.proofs.laws.loose_without_items_is_loose.Goals as goal

pub returns : goal.returns
returns c = λ children loose. ap (λ b. b || has_loose_item children) loose
