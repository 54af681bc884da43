-- There is a text exactly if the definition has its bytes. The search unfolds the decoding of a
-- reference before it finds that.
use Rattle.std.proofs.Common.{◌≡◌, Option, Some, None, refl, ap, ◌∙◌}
use Rattle.md_tree.proofs.Common.{is_some, option_map}
use Rattle.md_tree.proofs.judge.broken.is_decodable.Goals as goal

mapped : {A B : Type 0} (f : A → B) (o : Option A) → is_some o ≡ is_some (option_map f o)
mapped f None = refl
mapped f (Some x) = refl

pub returns : goal.returns
returns c = c.is_some.ensures ∙ mapped _ c.in_ok-text.text ∙ ap is_some c.in_ok-text.ensures
