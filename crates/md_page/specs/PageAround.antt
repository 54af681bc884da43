-- A page with a text whose tags have added attributes.
use Rattle.std.specs.Prelude.{◌≡◌, ℕ, true, IsTrue, List, [], ◌∷◌, ◌++◌, map, codes}
use Rattle.std.specs.List.{list_all}
use Rattle.md_safe.specs.Token.{Token, Doctype, Character, StartTag, EndTag, EndOfFile}
use Rattle.md_safe.specs.Tokenizer.{IsTokenized}
use Rattle.md_safe.specs.PageTokens.{charset, plain_tag}
use Rattle.md_safe.specs.SafeTokens.{has_safe_links, has_safe_images}
pub use Rattle.md_safe.specs.PageTokens.{after_body}

-- the tokens of a body, with these in place of the end of file
abbrev pub going_on : List Token → List Token → List Token
going_on [] after = []
going_on (EndOfFile ∷ more) after = after
going_on (Doctype name ∷ more) after = Doctype name ∷ going_on more after
going_on (Character b ∷ more) after = Character b ∷ going_on more after
going_on (StartTag name attributes flag ∷ more) after =
    StartTag name attributes flag ∷ going_on more after
going_on (EndTag name ∷ more) after = EndTag name ∷ going_on more after

-- the tokens of a page whose title has these characters, and whose body has these tokens
abbrev pub page_around : List ℕ → List Token → List Token
page_around title body =
    Doctype (codes "html") ∷ Character 10 ∷ plain_tag (codes "html") ∷ plain_tag (codes "head")
    ∷ StartTag (codes "meta") (charset ∷ []) true ∷ plain_tag (codes "title") ∷ (map Character title
    ++ (EndTag (codes "title") ∷ EndTag (codes "head") ∷ plain_tag (codes "body")
    ∷ going_on body after_body))

-- the tokenizer emits exactly these tokens for a text, and each `href` and each `src` among them
-- has no scheme of its own or a permitted one
pub record IsSafePage (text : List ℕ) (emits : List Token) : Type 0 where
  pub tokenized : IsTokenized text emits
  pub only : (other : List Token) → IsTokenized text other → other ≡ emits
  pub safe_links : IsTrue (list_all has_safe_links emits)
  pub safe_images : IsTrue (list_all has_safe_images emits)
