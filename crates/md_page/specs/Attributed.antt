-- The promises about a text whose tags have added attributes.
use Rattle.std.specs.Str.{bytes_eq}
use Rattle.std.specs.Prelude.{◌≡◌, ℕ, Bool, not, ◌&&◌, ◌||◌, IsTrue, List, filter, codes}
use Rattle.std.specs.List.{list_all}
use Rattle.md_text.specs.Bytes.{is_one_of}
use Rattle.md_safe.specs.Token.{Token, TokenAttribute, StartTag}
use Rattle.md_safe.specs.Tokenizer.{IsTokenized}
use Rattle.md_safe.specs.Tokens.{is_listed}
use Rattle.md_safe.specs.SafeTokens.{has_safe_links, has_safe_images}
use Rattle.md_page.specs.Added.{heading_names}

-- the `rel` of an `a`, or the `id` of a heading
abbrev pub is_addition : List ℕ → TokenAttribute → Bool
is_addition name a = (bytes_eq name (codes "a") && bytes_eq (codes "rel") a.name)
    || (is_one_of heading_names name && bytes_eq (codes "id") a.name)

-- a tag that is in the grammar's tables without these attributes, or a character, or the end of
-- file
abbrev pub is_listed_beside : Token → Bool
is_listed_beside token = elim token [
  | StartTag name attributes flag ↦
      is_listed (StartTag name (filter (λ a. not (is_addition name a)) attributes) flag)
  | other ↦ is_listed other
]

-- the tokenizer emits exactly these tokens for the text; each tag among them is in the grammar's
-- tables except for these attributes, and each `href` and each `src` has no scheme of its own or a
-- permitted one
pub record IsAttributed (text : List ℕ) : Type 0 where
  pub emits : List Token
  pub tokenized : IsTokenized text emits
  pub only : (other : List Token) → IsTokenized text other → other ≡ emits
  pub listed : IsTrue (list_all is_listed_beside emits)
  pub safe_links : IsTrue (list_all has_safe_links emits)
  pub safe_images : IsTrue (list_all has_safe_images emits)
