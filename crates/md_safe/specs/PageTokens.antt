-- The tokens of a page: a doctype, a head with a title, and a body of the HTML grammar.
use Rattle.std.specs.Prelude.{◌≡◌, ℕ, true, false, IsTrue, List, [], ◌∷◌, ◌++◌, map, codes}
use Rattle.std.specs.List.{list_all}
use Rattle.md_text.specs.Html.{Forest, IsReading}
use Rattle.md_safe.specs.Token.{Token, TokenAttribute, Doctype, Character, StartTag, EndTag}
use Rattle.md_safe.specs.Token.{EndOfFile}
use Rattle.md_safe.specs.Tokenizer.{IsTokenized}
use Rattle.md_safe.specs.Tokens.{tokens}
use Rattle.md_safe.specs.SafeTokens.{has_safe_links, has_safe_images}

-- the text of a page with an escaped title and a body's text
abbrev pub page_text : List ℕ → List ℕ → List ℕ
page_text title body =
    codes "<!doctype html>\n<html><head><meta charset=\"utf-8\" /><title>"
    ++ (title ++ (codes "</title></head><body>" ++ (body ++ codes "</body></html>\n")))

-- `charset="utf-8"`
abbrev pub charset : TokenAttribute
charset = record { name = codes "charset"; value = codes "utf-8" }

-- a start tag without attributes
abbrev pub plain_tag : List ℕ → Token
plain_tag name = StartTag name [] false

-- the tokens of a page after those of its body
abbrev pub after_body : List Token
after_body = EndTag (codes "body") ∷ EndTag (codes "html") ∷ Character 10 ∷ EndOfFile ∷ []

-- the tokens of a page whose title has these characters and whose body is this forest
abbrev pub page_tokens : List ℕ → Forest → List Token
page_tokens title body =
    Doctype (codes "html") ∷ Character 10 ∷ plain_tag (codes "html") ∷ plain_tag (codes "head")
    ∷ StartTag (codes "meta") (charset ∷ []) true ∷ plain_tag (codes "title") ∷ (map Character title
    ++ (EndTag (codes "title") ∷ EndTag (codes "head") ∷ plain_tag (codes "body") ∷ (tokens body
    ++ (EndTag (codes "body") ∷ EndTag (codes "html") ∷ Character 10 ∷ EndOfFile ∷ []))))

-- the tokenizer emits for the text exactly the tokens of a page, with a title of these characters
-- and a reading of that body, and each `href` and each `src` among them has no scheme of its own or
-- a permitted one
pub record IsTokenizedPage (title body text : List ℕ) : Type 0 where
  pub inside : Forest
  pub reading : IsReading body inside
  pub tokenized : IsTokenized text (page_tokens title inside)
  pub only : (other : List Token) → IsTokenized text other → other ≡ page_tokens title inside
  pub safe_links : IsTrue (list_all has_safe_links (page_tokens title inside))
  pub safe_images : IsTrue (list_all has_safe_images (page_tokens title inside))
