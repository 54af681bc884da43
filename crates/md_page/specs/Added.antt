-- The attributes that the calls add, as tokens of the HTML Standard: start tags with one more
-- attribute.
use Rattle.std.specs.Str.{bytes_eq}
use Rattle.std.specs.Prelude.{ℕ, suc, ◌-◌, Bool, true, false, not, ◌&&◌, if◌then◌else◌, nat_eq}
use Rattle.std.specs.Prelude.{slice_index, List, [], ◌∷◌, ◌++◌, codes}
use Rattle.std.specs.List.{list_any, starts_with}
use Rattle.std.specs.Fmt.{decimal}
use Rattle.md_base.specs.Identifier.{is_nonempty}
use Rattle.md_text.specs.Bytes.{is_one_of}
use Rattle.md_text.specs.Encode.{encoded}
use Rattle.md_safe.specs.Input.{with_line_feeds}
use Rattle.md_safe.specs.Token.{Token, TokenAttribute, Doctype, Character, StartTag, EndTag}
use Rattle.md_safe.specs.Token.{EndOfFile}

-- a start tag with one more attribute at its end
abbrev pub with_attribute : Token → TokenAttribute → Token
with_attribute token a = elim token [
  | StartTag name attributes flag ↦ StartTag name (attributes ++ (a ∷ [])) flag
  | other ↦ other
]

-- tokens, with one more attribute on each that passes the test; it depends on how many passed
-- before
abbrev pub added : (Token → Bool) → (ℕ → TokenAttribute) → ℕ → List Token → List Token
added test attribute n [] = []
added test attribute n (t ∷ ts) =
    if test t then with_attribute t (attribute n) ∷ added test attribute (suc n) ts
    else t ∷ added test attribute n ts

-- an attribute of this name is among some
abbrev pub has_attribute : List ℕ → List TokenAttribute → Bool
has_attribute name attributes = list_any (λ a. bytes_eq name a.name) attributes

-- ---- links

-- an `href` that isn't empty and doesn't begin with `#`
abbrev pub leads_away : TokenAttribute → Bool
leads_away a = bytes_eq (codes "href") a.name
    && (is_nonempty a.value && not (starts_with nat_eq a.value (codes "#")))

-- a start tag `a` with such an `href` and without a `rel`
abbrev pub gets_rel : Token → Bool
gets_rel token = elim token [
  | StartTag name attributes flag ↦ bytes_eq name (codes "a")
      && (list_any leads_away attributes && not (has_attribute (codes "rel") attributes))
  | _ ↦ false
]

-- the value that a tokenizer emits for an escaped text: U+FFFD for each NUL, and a line feed for
-- each line ending
abbrev pub shown : List ℕ → List ℕ
shown text = with_line_feeds (encoded false text)

-- `rel` with this text
abbrev pub rel_of : List ℕ → ℕ → TokenAttribute
rel_of text n = record { name = codes "rel"; value = shown text }

-- tokens, with this `rel` on each such link
abbrev pub with_link_rel : List ℕ → List Token → List Token
with_link_rel text tokens = added gets_rel (rel_of text) 0 tokens

-- ---- headings

-- the names of headings
abbrev pub heading_names : List (List ℕ)
heading_names = codes "h1" ∷ codes "h2" ∷ codes "h3" ∷ codes "h4" ∷ codes "h5" ∷ codes "h6" ∷ []

-- a heading's start tag without an `id`
abbrev pub gets_id : Token → Bool
gets_id token = elim token [
  | StartTag name attributes flag ↦
      is_one_of heading_names name && not (has_attribute (codes "id") attributes)
  | _ ↦ false
]

-- `id` with the prefix and a number, from 1
abbrev pub id_of : List ℕ → ℕ → TokenAttribute
id_of prefix n = record { name = codes "id"; value = shown prefix ++ decimal (suc n) }

-- tokens, with an `id` of this prefix and its number on each such heading
abbrev pub with_heading_ids : List ℕ → List Token → List Token
with_heading_ids prefix tokens = added gets_id (id_of prefix) 0 tokens

-- a heading that gets an `id`: its level, its number, and its text, escaped
pub record Listed : Type 0 where
  pub level : ℕ
  pub number : ℕ
  pub text : List ℕ

-- the characters before the next end tag of this name
abbrev pub characters_before : List ℕ → List Token → List ℕ
characters_before name [] = []
characters_before name (Character b ∷ more) = b ∷ characters_before name more
characters_before name (EndTag other ∷ more) =
    if bytes_eq other name then [] else characters_before name more
characters_before name (StartTag other attributes flag ∷ more) = characters_before name more
characters_before name (Doctype other ∷ more) = characters_before name more
characters_before name (EndOfFile ∷ more) = characters_before name more

-- a heading from its start tag and the tokens after it; the level is the digit of the name
abbrev pub heading_of : ℕ → Token → List Token → Listed
heading_of n token more = elim token [
  | StartTag name attributes flag ↦ record {
    level = slice_index name 1 - 48;
    number = suc n;
    text = encoded true (characters_before name more);
  }
  | _ ↦ record { level = 0; number = suc n; text = [] }
]

-- the headings that get an `id`, after so many of them
abbrev pub headings_after : ℕ → List Token → List Listed
headings_after n [] = []
headings_after n (t ∷ more) =
    if gets_id t then heading_of n t more ∷ headings_after (suc n) more else headings_after n more

-- all of them
abbrev pub headings_of : List Token → List Listed
headings_of tokens = headings_after 0 tokens
