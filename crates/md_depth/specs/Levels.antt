-- How deep the elements of HTML nest.
use Rattle.std.specs.Prelude.{ℕ, ◌≤◌, suc, max, List}
use Rattle.md_text.specs.Html.{Forest, Empty, Text, Void, Element, IsReading}

-- how deep elements nest; a void tag counts as one
abbrev pub levels : Forest → ℕ
levels Empty = 0
levels (Text bytes rest) = levels rest
levels (Void name attributes rest) = max 1 (levels rest)
levels (Element name attributes inner rest) = max (suc (levels inner)) (levels rest)

-- in each reading of a text, elements nest at most this deep
abbrev pub NestsWithin : ℕ → List ℕ → Type 0
NestsWithin bound text = (tree : Forest) → IsReading text tree → levels tree ≤ bound
