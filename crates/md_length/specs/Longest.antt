-- The length of the longest text of a named reference.
use Rattle.std.specs.Prelude.{ℕ, max, List, [], ◌∷◌, length}

-- the maximum over the names of a table, 0 if it is empty
abbrev pub longest : List (List ℕ × List ℕ) → ℕ
longest [] = 0
longest (entry ∷ names) = max (length entry.1) (longest names)
