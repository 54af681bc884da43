-- The tags of sound pieces: their tokens, and the bytes between `<` and `>`.
use Rattle.std.proofs.Common.{◌≡◌, ℕ, Bool, true, false, not, ◌&&◌, List, [], ◌∷◌, ◌++◌, refl}
use Rattle.std.proofs.Common.{sym, ap, ◌∙◌, append_assoc, codes, arith}
use Rattle.std.specs.List.{list_all}
use Rattle.std.proofs.lemmas.Bool.{and_parts, and_from}
use Rattle.std.proofs.lemmas.List.Folds.{list_all-append}
use Rattle.md_base.proofs.Lies.{lie}
use Rattle.md_text.specs.Bytes.{is_one_of}
use Rattle.md_text.specs.References.{is_escaped, is_escaped_byte}
use Rattle.md_text.specs.Html.{Attribute, written_attributes}
use Rattle.md_text.proofs.HtmlRead.{passes_not}
use Rattle.md_safe.specs.Token.{Token, TokenAttribute, Character, StartTag, EndTag, EndOfFile}
use Rattle.md_safe.specs.Tokens.{seen_attributes}
use Rattle.md_safe.proofs.Cases.{all-weaker}
use Rattle.md_page.specs.Pieces.{Piece, Words, Opening, Single, Closing, all_written}
use Rattle.md_page.specs.Pieces.{are_sound, are_plain, is_name_byte, is_tag_name, void_names}
use Rattle.md_page.specs.Scan.{differs}
use Rattle.md_page.proofs.Plain.{plain_attribute, name_bytes, void-name}

-- a tag that may be among sound pieces
abbrev pub is_sound_tag : Piece → Bool
is_sound_tag (Words text) = false
is_sound_tag (Opening name x) = is_tag_name name && are_plain x
is_sound_tag (Single name x) = is_one_of void_names name && are_plain x
is_sound_tag (Closing name) = is_tag_name name

-- the token of a tag
abbrev pub token_of : Piece → Token
token_of (Words text) = EndOfFile
token_of (Opening name x) = StartTag name (seen_attributes x) false
token_of (Single name x) = StartTag name (seen_attributes x) true
token_of (Closing name) = EndTag name

-- the bytes between a tag's `<` and its `>`
abbrev pub inside : Piece → List ℕ
inside (Words text) = []
inside (Opening name x) = name ++ written_attributes x
inside (Single name x) = name ++ (written_attributes x ++ (32 ∷ 47 ∷ []))
inside (Closing name) = 47 ∷ name

pub tag-written : (tag : Piece) (more : List Piece) → is_sound_tag tag ≡ true →
    all_written (tag ∷ more) ≡ 60 ∷ (inside tag ++ (62 ∷ all_written more))
tag-written tag more h = grind (arith, append_assoc)

pub tag-sound : (tag : Piece) (more : List Piece) → is_sound_tag tag ≡ true →
    are_sound more ≡ true → are_sound (tag ∷ more) ≡ true
tag-sound (Words text) more h later = lie h
tag-sound tag more h later = grind (arith, h, later)

-- tags are picked by their bytes as by their tokens, and each is the start tag of an element
pub record PicksBy (picks : List ℕ → Bool) (test : Token → Bool) : Type 0 where
  pub elements : (name : List ℕ) (x : List Attribute) (r : List ℕ) → is_tag_name name ≡ true →
      are_plain x ≡ true →
      picks (name ++ (written_attributes x ++ (62 ∷ r)))
      ≡ test (StartTag name (seen_attributes x) false)
  pub voids : (name r : List ℕ) → is_one_of void_names name ≡ true → picks (name ++ r) ≡ false
  pub ends : (r : List ℕ) → picks (47 ∷ r) ≡ false
  pub void_tokens : (name : List ℕ) (x : List TokenAttribute) → is_one_of void_names name ≡ true →
      test (StartTag name x true) ≡ false
  pub end_tokens : (name : List ℕ) → test (EndTag name) ≡ false
  pub characters : (b : ℕ) → test (Character b) ≡ false
  pub end_of_file : test EndOfFile ≡ false

pub picks-tag : {picks : List ℕ → Bool} {test : Token → Bool} → PicksBy picks test →
    (tag : Piece) (r : List ℕ) → is_sound_tag tag ≡ true →
    picks (inside tag ++ (62 ∷ r)) ≡ test (token_of tag)
picks-tag by (Words text) r h = lie h
picks-tag by (Opening name x) r h =
    let p = and_parts (is_tag_name name) (are_plain x) h in
    rw (append_assoc name (written_attributes x) (62 ∷ r)) (by.elements name x r p.0 p.1)
picks-tag by (Single name x) r h = grind (arith, append_assoc)
picks-tag by (Closing name) r h = by.ends (name ++ (62 ∷ r)) ∙ sym (by.end_tokens name)

-- ---- bytes that aren't in tags

pub escaped-differs : (n : ℕ) (x : List ℕ) → ((rest : List ℕ) → is_escaped_byte n rest ≡ false) →
    is_escaped x ≡ true → list_all (differs n) x ≡ true
escaped-differs n [] fails h = refl
escaped-differs n (b ∷ rest) fails h =
    let p = and_parts (is_escaped_byte b rest) (is_escaped rest) h in
    and_from _ _ (ap not (passes_not (λ c. is_escaped_byte c rest) b n (fails rest) p.0))
    (escaped-differs n rest fails p.1)

pub name-differs : (n : ℕ) (x : List ℕ) → is_name_byte n ≡ false → list_all is_name_byte x ≡ true →
    list_all (differs n) x ≡ true
name-differs n x fails h = grind (arith, all-weaker, passes_not)

pub all-join : (p : ℕ → Bool) (x y : List ℕ) → list_all p x ≡ true → list_all p y ≡ true →
    list_all p (x ++ y) ≡ true
all-join p x y h k = list_all-append p x y ∙ and_from _ _ h k

-- a byte that stands neither in names nor in escaped texts, and isn't a space, `=`, `"` or `/`
pub record StandsOutside (n : ℕ) : Type 0 where
  pub names : is_name_byte n ≡ false
  pub escaped : (rest : List ℕ) → is_escaped_byte n rest ≡ false
  pub marks : list_all (differs n) (codes " =\"/") ≡ true

pub opens : StandsOutside 60
opens = record { names = refl; escaped = λ rest. refl; marks = refl }

pub closes : StandsOutside 62
closes = record { names = refl; escaped = λ rest. refl; marks = refl }

pub attributes-differ : (n : ℕ) (x : List Attribute) → StandsOutside n → are_plain x ≡ true →
    list_all (differs n) (written_attributes x) ≡ true
attributes-differ n [] o h = refl
attributes-differ n (a ∷ x) o h =
    let later = attributes-differ n x o in
    grind (arith, plain_attribute, name-differs, escaped-differs, list_all-append, later)

pub tag-differs : (n : ℕ) (tag : Piece) → StandsOutside n → is_sound_tag tag ≡ true →
    list_all (differs n) (inside tag) ≡ true
tag-differs n (Words text) o h = refl
tag-differs n (Opening name x) o h =
    let p = and_parts (is_tag_name name) (are_plain x) h in
    all-join (differs n) name (written_attributes x)
    (name-differs n name o.names (name_bytes name p.0)) (attributes-differ n x o p.1)
tag-differs n (Single name x) o h =
    let p = and_parts (is_one_of void_names name) (are_plain x) h in
    let named =
    name-differs n name o.names (void-name (list_all is_name_byte) name refl p.0) in
    let later = attributes-differ n x o p.1 in
    simp list_all-append (grind (arith, o.marks, named, later))
tag-differs n (Closing name) o h =
    let named = name-differs n name o.names (name_bytes name h) in grind (arith, o.marks, named)
