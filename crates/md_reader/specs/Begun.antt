-- Where a tag begins: only contracts of private functions cite this.
use Rattle.std.specs.Prelude.{ℕ, false, List, ◌∷◌, ◌++◌}
use Rattle.md_safe.specs.Contents.{elements_in}
use Rattle.md_reader.specs.Allowed.{content_of, IsAllowed}
use Rattle.md_reader.specs.Levels.{IsEnd}
use Rattle.md_reader.specs.SplitNames.{IsSplitName}
use Rattle.md_reader.specs.declared.content.Allowed.{Allowed}
use Rattle.md_reader.specs.declared.content.Content.{Content}

-- after its `<` a tag has the name of an element that this content allows, and a rest
pub record IsBegun (content : Content) (found : Allowed) (name text : List ℕ) : Type 0 where
  pub cut : IsSplitName (name ++ text) name text
  pub on : IsEnd (60 ∷ (name ++ text)) → ⊥
  pub allowed : IsAllowed (elements_in false (content_of content)) name found
