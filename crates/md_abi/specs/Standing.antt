-- Lists of C's input, and what they encode.
use Rattle.std.specs.Prelude.{◌≡◌, ℕ, List, ◌∷◌, ◌++◌, length, map, Option, Some, None}
pub use Rattle.md_script.specs.Line.{◌>>=◌}

-- each item of a list encodes one of the other, in order
abbrev pub StandFor : {A B : Type 0} → (A → Option B) → List A → List B → Type 0
StandFor meaning given read = map meaning given ≡ map Some read

-- the first invalid item of a list is at this index
pub record IsFirstWithout {A B : Type 0} (meaning : A → Option B) (given : List A)
    (index : ℕ) : Type 0 where
  pub before : List B
  pub others : List (Option B)
  pub found : map meaning given ≡ map Some before ++ None ∷ others
  pub counted : index ≡ length before
