-- What authors may write.
use Rattle.std.specs.Prelude.{ℕ, Bool, true, not, ◌&&◌, IsTrue, List, [], ◌∷◌, codes}
use Rattle.std.specs.List.{list_any}
use Rattle.md_text.specs.Bytes.{is_one_of}
use Rattle.md_text.specs.Html.{Attribute, Forest, Empty, Text, Void, Element, IsReading}

-- the elements and the void tags that only the compiler writes
abbrev pub own_tags : List (List ℕ)
own_tags = codes "section" ∷ codes "input" ∷ []

-- the attributes that only the compiler writes, and the names of places in the text
abbrev pub own_attributes : List (List ℕ)
own_attributes =
    codes "class" ∷ codes "data-footnotes" ∷ codes "data-footnote-ref"
    ∷ codes "data-footnote-backref" ∷ codes "aria-describedby" ∷ codes "aria-label" ∷ codes "id"
    ∷ codes "name" ∷ codes "rel" ∷ []

-- a tag that isn't among them, with no attribute that is
abbrev pub is_authors_tag : List ℕ → List Attribute → Bool
is_authors_tag name attributes = not (is_one_of own_tags name)
    && not (list_any (λ a. is_one_of own_attributes a.name) attributes)

-- all tags of a forest are such
abbrev pub is_of_authors : Forest → Bool
is_of_authors Empty = true
is_of_authors (Text bytes rest) = is_of_authors rest
is_of_authors (Void name attributes rest) =
    is_authors_tag name attributes && is_of_authors rest
is_of_authors (Element name attributes inner rest) =
    is_authors_tag name attributes && is_of_authors inner && is_of_authors rest

-- the tags of each reading of a text are such
abbrev pub IsOfAuthors : List ℕ → Type 0
IsOfAuthors text = (forest : Forest) → IsReading text forest → IsTrue (is_of_authors forest)
