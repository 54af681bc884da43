-- What a caller chose.
use Rattle.std.specs.Prelude.{ℕ, Bool, true, ◌&&◌, ◌||◌, if◌then◌else◌, IsTrue, List, [], ◌∷◌}
use Rattle.std.specs.Prelude.{codes, bytes_eq}
use Rattle.md_text.specs.Bytes.{is_one_of}
use Rattle.md_text.specs.Html.{Forest, Empty, Text, Void, Element, IsReading}

-- the elements that a table needs
abbrev pub table_parts : List (List ℕ)
table_parts = codes "thead" ∷ codes "tbody" ∷ codes "tfoot" ∷ codes "tr" ∷ codes "th"
    ∷ codes "td" ∷ []

-- a chosen element needs one of this name: a table its parts, a list its items, `pre` its `code`
abbrev pub is_needed : List (List ℕ) → List ℕ → Bool
is_needed chosen name =
    if is_one_of table_parts name then is_one_of chosen (codes "table")
    else if bytes_eq name (codes "li")
    then is_one_of chosen (codes "ul") || is_one_of chosen (codes "ol")
    else bytes_eq name (codes "code") && is_one_of chosen (codes "pre")

-- an element of this name is chosen, or a chosen one needs it
abbrev pub is_chosen : List (List ℕ) → List ℕ → Bool
is_chosen chosen name = is_one_of chosen name || is_needed chosen name

-- all elements of a forest are such
abbrev pub has_chosen_only : List (List ℕ) → Forest → Bool
has_chosen_only chosen Empty = true
has_chosen_only chosen (Text bytes rest) = has_chosen_only chosen rest
has_chosen_only chosen (Void name attributes rest) =
    is_chosen chosen name && has_chosen_only chosen rest
has_chosen_only chosen (Element name attributes inner rest) =
    is_chosen chosen name && has_chosen_only chosen inner && has_chosen_only chosen rest

-- the elements of each reading of a text are such
abbrev pub HasChosenOnly : List (List ℕ) → List ℕ → Type 0
HasChosenOnly chosen text = (forest : Forest) → IsReading text forest →
    IsTrue (has_chosen_only chosen forest)
