-- What authors write, piece by piece.
use Rattle.std.specs.Prelude.{◌≡◌, ◌⊎◌, ℕ, IsTrue, List, []}
use Rattle.md_text.specs.Html.{Attribute, Empty, Void, closing_tag, elements, is_tag, opening_tag}
use Rattle.md_text.specs.Html.{void_tags, written}
use Rattle.md_text.specs.References.{is_escaped}
use Rattle.md_reader.specs.Authors.{is_authors_tag}

-- the start tag of an element, with attributes that it may have, all of them such as authors write
pub record IsStartTag (text : List ℕ) : Type 0 where
  pub name : List ℕ
  pub attributes : List Attribute
  pub listed : IsTrue (is_tag elements name attributes)
  pub of_authors : IsTrue (is_authors_tag name attributes)
  pub is : text ≡ opening_tag name attributes

-- a void tag, likewise
pub record IsVoidTag (text : List ℕ) : Type 0 where
  pub name : List ℕ
  pub attributes : List Attribute
  pub listed : IsTrue (is_tag void_tags name attributes)
  pub of_authors : IsTrue (is_authors_tag name attributes)
  pub is : text ≡ written (Void name attributes Empty)

-- the end tag of an element that authors write
pub record IsEndTag (text : List ℕ) : Type 0 where
  pub name : List ℕ
  pub listed : IsTrue (is_tag elements name [])
  pub of_authors : IsTrue (is_authors_tag name [])
  pub is : text ≡ closing_tag name

-- one of these tags, or an escaped text
abbrev pub IsAuthorsPiece : List ℕ → Type 0
IsAuthorsPiece text =
    IsStartTag text ⊎ (IsVoidTag text ⊎ (IsEndTag text ⊎ IsTrue (is_escaped text)))
