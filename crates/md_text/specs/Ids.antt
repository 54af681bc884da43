-- The ids of the elements of a text.
use Rattle.std.specs.Str.{bytes_eq}
use Rattle.std.specs.Prelude.{ℕ, Bool, true, not, IsTrue, ◌&&◌, if◌then◌else◌, List, [], ◌∷◌, ◌++◌}
use Rattle.std.specs.Prelude.{codes}
use Rattle.std.specs.List.{list_any}
use Rattle.md_text.specs.References.{read_back}
use Rattle.md_text.specs.Html.{Attribute, Forest, Empty, Text, Void, Element, IsReading}

-- the value of an `id`, with its references read back
abbrev pub id_in : Attribute → List (List ℕ)
id_in a = if bytes_eq a.name (codes "id") then read_back a.value ∷ [] else []

-- the ids in some attributes
abbrev pub ids_in : List Attribute → List (List ℕ)
ids_in [] = []
ids_in (a ∷ rest) = id_in a ++ ids_in rest

-- the ids in all tags, in order
abbrev pub ids : Forest → List (List ℕ)
ids Empty = []
ids (Text bytes rest) = ids rest
ids (Void name attributes rest) = ids_in attributes ++ ids rest
ids (Element name attributes children rest) = ids_in attributes ++ (ids children ++ ids rest)

-- no two of some texts are equal
abbrev pub are_distinct : List (List ℕ) → Bool
are_distinct [] = true
are_distinct (x ∷ xs) = not (list_any (λ y. bytes_eq y x) xs) && are_distinct xs

-- no two `id`s of a text have equal values, in any reading
abbrev pub HasDistinctIds : List ℕ → Type 0
HasDistinctIds text = (forest : Forest) → IsReading text forest → IsTrue (are_distinct (ids forest))
