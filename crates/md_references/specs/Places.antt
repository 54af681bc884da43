-- Where the entries of a table begin. Only private contracts cite this.
use Rattle.std.specs.Prelude.{◌≡◌, ◌⊎◌, ◌∷◌, ◌++◌, [], ℕ, List}

-- a text from a table's beginning, after which an entry begins: nothing, or it ends in NUL
abbrev pub IsBeforeEntry : List ℕ → Type 0
IsBeforeEntry text = (text ≡ []) ⊎ ((front : List ℕ) × (text ≡ front ++ 0 ∷ []))
