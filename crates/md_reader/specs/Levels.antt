-- What stands on one level of a text: only contracts of private functions cite these.
use Rattle.std.specs.Prelude.{◌≡◌, ◌⊎◌, ◌≤◌, ℕ, true, false, List, [], ◌∷◌, ◌++◌}
use Rattle.md_text.specs.Html.{Forest, written, is_forest}
use Rattle.md_safe.specs.Contents.{Content, is_contained}
use Rattle.md_depth.specs.Levels.{levels}
use Rattle.md_reader.specs.Tests.{Test, all_pass}

-- where a level ends: the text ends, or an end tag begins
abbrev pub IsEnd : List ℕ → Type 0
IsEnd rest = (rest ≡ []) ⊎ ((more : List ℕ) × (rest ≡ 60 ∷ 47 ∷ more))

-- where a text ends: the input ends, or a tag begins
abbrev pub EndsText : List ℕ → Type 0
EndsText rest = (rest ≡ []) ⊎ ((more : List ℕ) × (rest ≡ 60 ∷ more))

-- a text is a forest of this content, at most so deep, whose tags and attributes pass, and a rest
pub record IsLevel (t : Test) (content : Content) (depth : ℕ)
    (text rest : List ℕ) : Type 0 where
  pub forest : Forest
  pub is : text ≡ written forest ++ rest
  pub inside : is_forest forest ≡ true
  pub contained : is_contained false content forest ≡ true
  pub passes : all_pass t forest ≡ true
  pub shallow : levels forest ≤ depth

-- a text is a node of such a level, and a rest
pub record IsNode (t : Test) (content : Content) (depth : ℕ)
    (text rest : List ℕ) : Type 0 where
  pub back : (end : List ℕ) → IsLevel t content depth rest end → IsLevel t content depth text end
  pub forth : (end : List ℕ) → IsEnd end → IsLevel t content depth text end →
      IsLevel t content depth rest end

-- a text is no such level
abbrev pub IsNoLevel : Test → Content → ℕ → List ℕ → Type 0
IsNoLevel t content depth text = (end : List ℕ) → IsEnd end → IsLevel t content depth text end → ⊥
