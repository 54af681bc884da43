-- Tables of values whose keys are texts.
use Rattle.std.specs.Prelude.{ℕ, List, map, Option, option_map, find, bytes_eq}
use Rattle.std.specs.Borrow.{Bor}

-- the texts and values in a slice of such pairs
abbrev pub entries_of : {A : Type 0} → List (Bor (List ℕ) × A) → List (List ℕ × A)
entries_of = map (λ entry. (entry.0.now, entry.1))

-- the value of the first entry with this text
abbrev pub listed : {A : Type 0} → List (List ℕ × A) → List ℕ → Option A
listed table text = option_map (λ entry. entry.1) (find (λ entry. bytes_eq entry.0 text) table)
