-- The part of a list from one index up to another.
use Rattle.std.specs.Prelude.{ℕ, List, take, drop}

abbrev pub window : {A : Type 0} → ℕ → ℕ → List A → List A
window from to xs = drop from (take to xs)
