-- A page: a doctype, a head with a title, and a body of the HTML grammar.
use Rattle.std.specs.Prelude.{◌≡◌, ℕ, Bool, true, false, IsTrue, List, [], ◌∷◌, ◌++◌, codes}
use Rattle.md_text.specs.Encode.{encoded}
use Rattle.md_text.specs.References.{read_back}
use Rattle.md_text.specs.Html.{Attribute, Forest, Empty, Text, Void, Element, IsReading, is_forest}
use Rattle.md_text.specs.Html.{all_attributes, written}
use Rattle.md_text.specs.Safe.{is_safe_link, is_safe_image}

-- `charset="utf-8"`
abbrev pub charset : Attribute
charset = record { name = codes "charset"; value = codes "utf-8" }

-- `html` contains `head` and `body`; `head` contains the void `meta` and `title`
abbrev pub page_tree : Forest → Forest → Forest
page_tree title body =
    Element (codes "html") [] (Element (codes "head") [] (Void (codes "meta") (charset ∷ [])
    (Element (codes "title") [] title Empty)) (Element (codes "body") [] body Empty))
    Empty

-- at most one text of the HTML grammar, and no tag
abbrev pub is_title : Forest → Bool
is_title Empty = true
is_title (Text bytes Empty) = is_forest (Text bytes Empty)
is_title _ = false

-- the text is the page with this title and this body: `<!doctype html>`, a line feed, the
-- element, a line feed
pub record IsPage (text : List ℕ) (title body : Forest) : Type 0 where
  pub title_is_text : IsTrue (is_title title)
  pub body_in_grammar : IsTrue (is_forest body)
  pub written_so : text ≡ codes "<!doctype html>\n" ++ written (page_tree title body) ++ codes "\n"

-- the text is a page in exactly one way: its title, with references read back, is the given one
-- with U+FFFD for each NUL, and its body is a reading of the given one, in which each link and each
-- image has no protocol or a permitted one
pub record IsPageOf (title body text : List ℕ) : Type 0 where
  pub head : Forest
  pub inside : Forest
  pub page : IsPage text head inside
  pub only : (other_head other_inside : Forest) → IsPage text other_head other_inside →
      (other_head ≡ head) × (other_inside ≡ inside)
  pub titled : read_back (written head) ≡ encoded false title
  pub reading : IsReading body inside
  pub safe_links : IsTrue (all_attributes is_safe_link inside)
  pub safe_images : IsTrue (all_attributes is_safe_image inside)

-- the text of a page with a title and a body
abbrev pub page_text : List ℕ → List ℕ → List ℕ
page_text title body =
    codes "<!doctype html>\n<html><head><meta charset=\"utf-8\" /><title>"
    ++ (encoded true title ++ (codes "</title></head><body>" ++ (body ++ codes "</body></html>\n")))
