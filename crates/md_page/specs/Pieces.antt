-- The pieces of such a text, which its type promises. The public contracts that cite it are the
-- clause `written` of the trait `Html`, and the promises to C about a text with attributes.
use Rattle.std.specs.Str.{bytes_eq}
use Rattle.std.specs.Prelude.{◌≡◌, ℕ, Bool, true, false, not, IsTrue, ◌&&◌, List, []}
use Rattle.std.specs.Prelude.{◌∷◌, ◌++◌, map, codes}
use Rattle.std.specs.List.{list_any, list_all}
use Rattle.md_text.specs.Bytes.{is_between, is_one_of}
use Rattle.md_text.specs.References.{is_escaped}
use Rattle.md_text.specs.Html.{Attribute, written_attributes}
pub use Rattle.md_text.specs.HtmlName.{is_name_byte, is_name}
use Rattle.md_safe.specs.Token.{Token, Character, StartTag, EndTag, EndOfFile}
use Rattle.md_safe.specs.TokenizerStates.{switching}
use Rattle.md_safe.specs.Tokens.{seen, seen_attributes}
use Rattle.md_safe.specs.SafeTokens.{has_safe_links, has_safe_images}
use Rattle.md_page.specs.Attributed.{is_listed_beside}

-- a text, the start tag of an element, a void tag, an end tag
pub data Piece : Type 0 where
  Words : List ℕ → Piece
  Opening : List ℕ → List Attribute → Piece
  Single : List ℕ → List Attribute → Piece
  Closing : List ℕ → Piece

-- pieces as they are written
abbrev pub all_written : List Piece → List ℕ
all_written [] = []
all_written (Words text ∷ more) = text ++ all_written more
all_written (Opening name attributes ∷ more) =
    60 ∷ (name ++ (written_attributes attributes ++ (62 ∷ all_written more)))
all_written (Single name attributes ∷ more) =
    60 ∷ (name ++ (written_attributes attributes ++ (32 ∷ 47 ∷ 62 ∷ all_written more)))
all_written (Closing name ∷ more) = 60 ∷ 47 ∷ (name ++ (62 ∷ all_written more))

-- their tokens, and the end of file
abbrev pub all_tokens : List Piece → List Token
all_tokens [] = EndOfFile ∷ []
all_tokens (Words text ∷ more) = map Character (seen text) ++ all_tokens more
all_tokens (Opening name attributes ∷ more) =
    StartTag name (seen_attributes attributes) false ∷ all_tokens more
all_tokens (Single name attributes ∷ more) =
    StartTag name (seen_attributes attributes) true ∷ all_tokens more
all_tokens (Closing name ∷ more) = EndTag name ∷ all_tokens more

-- begins with a lower-case letter
abbrev pub begins_with_letter : List ℕ → Bool
begins_with_letter [] = false
begins_with_letter (b ∷ rest) = is_between 97 122 b

-- a tag's name at which tree construction doesn't change the tokenizer's state
abbrev pub is_tag_name : List ℕ → Bool
is_tag_name name =
    begins_with_letter name && (list_all is_name_byte name && not (is_one_of switching name))

-- names and escaped values, with no name twice
abbrev pub are_plain : List Attribute → Bool
are_plain [] = true
are_plain (a ∷ rest) = is_name a.name && (is_escaped a.value
    && (not (list_any (λ later. bytes_eq a.name later.name) rest) && are_plain rest))

-- the names of void tags
abbrev pub void_names : List (List ℕ)
void_names = codes "br" ∷ codes "hr" ∷ codes "img" ∷ codes "input" ∷ codes "wbr" ∷ []

-- the first piece is a text
abbrev pub begins_with_words : List Piece → Bool
begins_with_words [] = false
begins_with_words (Words text ∷ more) = true
begins_with_words (Opening name attributes ∷ more) = false
begins_with_words (Single name attributes ∷ more) = false
begins_with_words (Closing name ∷ more) = false

-- texts are escaped, and none follows another; tags have such names and attributes
abbrev pub are_sound : List Piece → Bool
are_sound [] = true
are_sound (Words text ∷ more) = is_escaped text && (not (begins_with_words more) && are_sound more)
are_sound (Opening name attributes ∷ more) =
    is_tag_name name && (are_plain attributes && are_sound more)
are_sound (Single name attributes ∷ more) =
    is_one_of void_names name && (are_plain attributes && are_sound more)
are_sound (Closing name ∷ more) = is_tag_name name && are_sound more

-- a text is written so, and its tokens are safe and otherwise in the tables
pub record IsWritten (text : List ℕ) : Type 0 where
  pub pieces : List Piece
  pub sound : IsTrue (are_sound pieces)
  pub written_so : all_written pieces ≡ text
  pub listed : IsTrue (list_all is_listed_beside (all_tokens pieces))
  pub safe_links : IsTrue (list_all has_safe_links (all_tokens pieces))
  pub safe_images : IsTrue (list_all has_safe_images (all_tokens pieces))
