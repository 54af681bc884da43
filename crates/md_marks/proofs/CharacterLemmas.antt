-- The characters at the ends of a text.
use Rattle.std.proofs.Common.{◌≡◌, ℕ, ◌+◌, ◌-◌, ◌/◌, ◌%◌, ◌<◌, ◌≤◌, Bool, true, false, nat_lt, ◌&&◌}
use Rattle.std.proofs.Common.{List, [], ◌∷◌, ◌++◌, length, get_or, take, Option, Some, None}
use Rattle.std.proofs.Common.{refl, sym, ap, ◌∙◌, subst, arith, ⊎_elim}
use Rattle.std.specs.Prelude.{if◌then◌else◌, MatchOption, slice_get, is_some}
use Rattle.md_marks.specs.declared.characters.CharacterClass.TheVariants.{Space}
use Rattle.std.specs.Char.{IsScalar}
use Rattle.std.specs.Str.{IsUtf8, chars}
use Rattle.std.specs.Char.{is_ascii_punctuation}
use Rattle.std.proofs.lemmas.Str.{IsUtf8-encode, chars_past_char, chars-encodes, chars-nil}
use Rattle.std.proofs.lemmas.Str.{encodes-append}
use Rattle.std.proofs.lemmas.List.{reverse-append}
use mathlib.Core.Bool.{false≢true}
use Rattle.ucd_category.proofs.Computing.{ucd_category}
use Rattle.md_marks.specs.Characters.{class_of, class_of_first, class_of_last}
use Rattle.md_marks.specs.Characters.{is_punctuation_character, is_white_space, is_ascii_space}
use Rattle.std.proofs.lemmas.List.{append-nil, length-append, get_or-append-add}
use Rattle.std.proofs.lemmas.List.{get_or_append_left, take-append-le, take_all}
use Rattle.std.proofs.lemmas.Bool.{cases_lt, lt-ltb, le-ltb, agree_below_at}
use lib.Utf8.{encode, encodes, scalar, scalars}

-- ---- the bytes of a character

pub encode-one : (c : ℕ) → c < 128 → encode c ≡ c ∷ []
unfolding encode
encode-one c small = rw (lt-ltb c 128 small) refl

abbrev continuing : ℕ → ℕ
continuing bits = 128 + bits % 64

encode-two : (c : ℕ) → 128 ≤ c → c < 2048 → encode c ≡ (192 + c / 64) ∷ continuing c ∷ []
unfolding encode
encode-two c large small = rw (le-ltb c 128 large, lt-ltb c 2048 small) refl

encode-three : (c : ℕ) → 2048 ≤ c → c < 65536 →
    encode c ≡ (224 + c / 4096) ∷ continuing (c / 64) ∷ continuing c ∷ []
unfolding encode
encode-three c large small =
    rw (le-ltb c 128 (omega (arith, large)), le-ltb c 2048 large, lt-ltb c 65536 small) refl

encode-four : (c : ℕ) → 65536 ≤ c →
    encode c ≡ (240 + c / 262144) ∷ continuing (c / 4096) ∷ continuing (c / 64) ∷ continuing c ∷ []
unfolding encode
encode-four c large =
    rw (
      le-ltb c 128 (omega (arith, large)),
      le-ltb c 2048 (omega (arith, large)),
      le-ltb c 65536 large,
    ) refl

abbrev length_first : ℕ → ℕ
length_first byte = if nat_lt byte 224 then 2 else if nat_lt byte 240 then 3 else 4

-- the lengths of a character of several bytes by its first one, and the bytes after that are less
pub is-long : (P : List ℕ → Type 0) →
    ((a b : ℕ) → 192 ≤ a → a < 224 → b < 192 → 128 ≤ b → P (a ∷ b ∷ [])) →
    ((a b d : ℕ) → 224 ≤ a → a < 240 → b < 192 → d < 192 → 128 ≤ d → P (a ∷ b ∷ d ∷ [])) →
    ((a b d e : ℕ) → 240 ≤ a → b < 192 → d < 192 → e < 192 → 128 ≤ e → P (a ∷ b ∷ d ∷ e ∷ [])) →
    (c : ℕ) → 128 ≤ c → P (encode c)
is-long P two three four c large = ⊎_elim
    (λ (small : c < 2048). subst P (sym (encode-two c large small)) (two (192 + c / 64) (continuing c)
    (omega arith) (omega (arith, small)) (omega arith) (omega arith)))
    (λ (more : 2048 ≤ c). ⊎_elim
    (λ (small : c < 65536). subst P (sym (encode-three c more small)) (three (224 + c / 4096)
    (continuing (c / 64)) (continuing c) (omega arith) (omega (arith, small)) (omega arith)
    (omega arith) (omega arith)))
    (λ (most : 65536 ≤ c). subst P (sym (encode-four c most)) (four (240 + c / 262144)
    (continuing (c / 4096)) (continuing (c / 64)) (continuing c) (omega arith) (omega arith)
    (omega arith) (omega arith) (omega arith)))
    (cases_lt c 65536))
    (cases_lt c 2048)

pub the-character : (c d : ℕ) (rest : List ℕ) → IsScalar c → encode c ≡ encode d ++ rest → d ≡ c
the-character c d rest one same =
    let utf8 = IsUtf8-encode c one in
    let whole = chars_past_char (encode c) [] c utf8 (sym (append-nil (encode c))) in
    let other = chars_past_char (encode c) rest d utf8 same in
    ap (λ cs. get_or cs 0 0) (sym other ∙ whole)

some-bytes : (c : ℕ) → length (encode c) ≡ 0 → ⊥
some-bytes c none = ⊎_elim
    (λ (small : c < 128). absurd (omega (arith, none, ap length (encode-one c small))))
    (λ (large : 128 ≤ c). absurd (is-long (λ bs. length bs ≡ 0 → ⊥)
    (λ a b x y z v e. omega (arith, e))
    (λ a b d x y z w v e. omega (arith, e)) (λ a b d f x y z w v e. omega (arith, e)) c large none))
    (cases_lt c 128)

-- the first character of a text of one character
pub next-is : (P : Type 0) (found : Option ℕ) (text rest : List ℕ) (c : ℕ) → IsScalar c →
    text ≡ encode c → MatchOption found ((length text ≡ 0) × P) (λ d. text ≡ encode d ++ rest) →
    found ≡ Some c
next-is P None text rest c one same none = absurd (some-bytes c (sym (ap length same) ∙ none.0))
next-is P (Some d) text rest c one same is = ap Some (the-character c d rest one (sym same ∙ is))

first-large : (c : ℕ) → 128 ≤ c → 128 ≤ get_or (encode c) 0 0
first-large = is-long (λ bs. 128 ≤ get_or bs 0 0) (λ a b x y z v. omega (arith, x))
    (λ a b d x y z w v. omega (arith, x)) (λ a b d f x y z w v. omega (arith, x))

-- ---- how many bytes the character at an end has

pub length-by : (c : ℕ) → 128 ≤ c → length (encode c) ≡ length_first (get_or (encode c) 0 0)
length-by c large = is-long (λ bs. length bs ≡ length_first (get_or bs 0 0))
    (λ a b x y z v. rw (lt-ltb a 224 y) refl)
    (λ a b d x y z w v. rw (le-ltb a 224 x, lt-ltb a 240 y) refl)
    (λ a b d f x y z w v. rw (le-ltb a 224 (omega (arith, x)), le-ltb a 240 x) refl) c large

abbrev length_last : List ℕ → ℕ
length_last text =
    if nat_lt 191 (get_or text (length text - 2) 0) then 2
    else if nat_lt 191 (get_or text (length text - 3) 0) then 3 else 4

byte-at : (before bs : List ℕ) (k back : ℕ) → k + back ≡ length bs →
    get_or (before ++ bs) (length (before ++ bs) - back) 0 ≡ get_or bs k 0
byte-at before bs k back whole =
    ap (λ i. get_or (before ++ bs) i 0) (omega (arith, length-append before bs, whole))
    ∙ get_or-append-add before bs k 0

pub length-last : (before : List ℕ) (c : ℕ) → 128 ≤ c →
    length (encode c) ≡ length_last (before ++ encode c)
length-last before c large = is-long (λ bs. length bs ≡ length_last (before ++ bs))
    (λ a b x y z v. rw (byte-at before (a ∷ b ∷ []) 0 2 refl, lt-ltb 191 a (omega (arith, x))) refl)
    (λ a b d x y z w v. rw (
      byte-at before (a ∷ b ∷ d ∷ []) 1 2 refl,
      le-ltb 191 b (omega (arith, z)),
      byte-at before (a ∷ b ∷ d ∷ []) 0 3 refl,
      lt-ltb 191 a (omega (arith, x)),
    ) refl)
    (λ a b d f x y z w v. rw (
      byte-at before (a ∷ b ∷ d ∷ f ∷ []) 2 2 refl,
      le-ltb 191 d
          (omega (arith, z)),
      byte-at before (a ∷ b ∷ d ∷ f ∷ []) 1 3 refl,
      le-ltb 191 b (omega (arith, y)),
    ) refl) c large

pub first-byte : (c : ℕ) (after : List ℕ) → get_or (encode c ++ after) 0 0 ≡ get_or (encode c) 0 0
first-byte c after =
    get_or_append_left (encode c) after 0 0 (positive (length (encode c)) (some-bytes c))
  where
    positive : (n : ℕ) → (n ≡ 0 → ⊥) → 0 < n
    positive n some = omega (arith, some)

pub taken : (c : ℕ) (after : List ℕ) → take (length (encode c)) (encode c ++ after) ≡ encode c
taken c after = take-append-le (length (encode c)) (encode c) after (omega arith)
    ∙ take_all (length (encode c)) (encode c) (omega arith)

both : (a b : Bool) → (a && b) ≡ true → (a ≡ true) × (b ≡ true)
both true b e = (refl, e)
both false b e = absurd (false≢true e)

last-large : (c : ℕ) → 128 ≤ c → 128 ≤ get_or (encode c) (length (encode c) - 1) 0
last-large = is-long (λ bs. 128 ≤ get_or bs (length bs - 1) 0) (λ a b x y z v. omega (arith, v))
    (λ a b d x y z w v. omega (arith, v)) (λ a b d f x y z w v. omega (arith, v))

-- a list that isn't empty, by its last element
split-last : (cs : List ℕ) → (c : ℕ) → (front : List ℕ) × (last : ℕ) × (c ∷ cs ≡ front ++ last ∷ [])
split-last [] c = ([], c, refl)
split-last (d ∷ cs) c =
    let later = split-last cs d in
    (c ∷ later.0, later.1, ap (λ ds. c ∷ ds) later.2)

scalar-last : (front : List ℕ) (last : ℕ) → scalars (front ++ last ∷ []) ≡ true → scalar last ≡ true
scalar-last [] last are = (both (scalar last) true are).0
scalar-last (c ∷ front) last are =
    scalar-last front last ((both (scalar c) (scalars (front ++ last ∷ [])) are).1)

-- ---- the character at an end of a text

-- a text that begins with a character of several bytes
pub record BeginsLong (text : List ℕ) : Type 0 where
  pub code : ℕ
  pub after : List ℕ
  pub scalar : IsScalar code
  pub large : 128 ≤ code
  pub text_is : text ≡ encode code ++ after
  pub class : class_of_first (chars text) ≡ class_of code

pub first-short : (text : List ℕ) → IsUtf8 text → 0 < length text → get_or text 0 0 < 128 →
    class_of_first (chars text) ≡ class_of (get_or text 0 0)
first-short text utf8 some small = go utf8.0 utf8.1.0 utf8.1.1
  where
    go : (cs : List ℕ) → scalars cs ≡ true → encodes cs ≡ text →
        class_of_first (chars text) ≡ class_of (get_or text 0 0)
    go [] are is = absurd (omega (arith, some, ap length is))
    go (c ∷ cs) are is =
        let all = ap class_of_first (ap chars (sym is) ∙ chars-encodes (c ∷ cs) are) in
        let byte = ap (λ bs. get_or bs 0 0) (sym is) ∙ first-byte c (encodes cs) in
        ⊎_elim
        (λ (short : c < 128). all
        ∙ ap class_of (sym (byte ∙ ap (λ bs. get_or bs 0 0) (encode-one c short))))
        (λ (large : 128 ≤ c). absurd (omega (arith, small, byte, first-large c large)))
        (cases_lt c 128)

pub first-long : (text : List ℕ) → IsUtf8 text → 0 < length text → 128 ≤ get_or text 0 0 →
    BeginsLong text
first-long text utf8 some large = go utf8.0 utf8.1.0 utf8.1.1
  where
    go : (cs : List ℕ) → scalars cs ≡ true → encodes cs ≡ text → BeginsLong text
    go [] are is = absurd (omega (arith, some, ap length is))
    go (c ∷ cs) are is =
        let byte = ap (λ bs. get_or bs 0 0) (sym is) ∙ first-byte c (encodes cs) in
        ⊎_elim
        (λ (short : c < 128). absurd (omega (
          arith,
          large,
          byte,
          short,
          ap (λ bs. get_or bs 0 0) (encode-one c short),
        )))
        (λ (long : 128 ≤ c). record {
          code = c;
          after = encodes cs;
          scalar = (both (scalar c) (scalars cs) are).0;
          large = long;
          text_is = sym is;
          class = ap class_of_first (ap chars (sym is) ∙ chars-encodes (c ∷ cs) are);
        })
        (cases_lt c 128)

-- a text that ends in a character of several bytes
pub record EndsLong (text : List ℕ) : Type 0 where
  pub before : List ℕ
  pub code : ℕ
  pub scalar : IsScalar code
  pub large : 128 ≤ code
  pub text_is : text ≡ before ++ encode code
  pub class : class_of_last (chars text) ≡ class_of code

-- the characters of a text, the last one apart
record LastOf (text : List ℕ) : Type 0 where
  before : List ℕ
  code : ℕ
  scalar : IsScalar code
  text_is : text ≡ before ++ encode code
  class : class_of_last (chars text) ≡ class_of code

last-of : (text : List ℕ) → IsUtf8 text → 0 < length text → LastOf text
last-of text utf8 some = go utf8.0 utf8.1.0 utf8.1.1
  where
    go : (cs : List ℕ) → scalars cs ≡ true → encodes cs ≡ text → LastOf text
    go [] are is = absurd (omega (arith, some, ap length is))
    go (c ∷ cs) are is =
        let parts = split-last cs c in
        let front = parts.0 in
        let last = parts.1 in
        record {
          before = encodes front;
          code = last;
          scalar = scalar-last front last (ap scalars (sym parts.2) ∙ are);
          text_is = sym is ∙ ap encodes parts.2 ∙ encodes-append front (last ∷ [])
              ∙ ap (λ bs. encodes front ++ bs) (append-nil (encode last));
          class = ap class_of_last (ap chars (sym is) ∙ chars-encodes (c ∷ cs) are)
              ∙ ap class_of_last parts.2 ∙ ap class_of_first (reverse-append front (last ∷ []));
        }

last-byte : (text : List ℕ) (one : LastOf text) → get_or text (length text - 1) 0
    ≡ get_or (encode (LastOf.code one)) (length (encode (LastOf.code one)) - 1) 0
last-byte text one =
    let bs = encode (LastOf.code one) in
    ap (λ all. get_or all (length all - 1) 0) (LastOf.text_is one)
    ∙ byte-at (LastOf.before one) bs (length bs - 1) 1
    (positive (length bs) (some-bytes (LastOf.code one)))
  where
    positive : (n : ℕ) → (n ≡ 0 → ⊥) → n - 1 + 1 ≡ n
    positive n some = omega (arith, some)

pub last-short : (text : List ℕ) → IsUtf8 text → 0 < length text →
    get_or text (length text - 1) 0 < 128 →
    class_of_last (chars text) ≡ class_of (get_or text (length text - 1) 0)
last-short text utf8 some small =
    let one = last-of text utf8 some in
    let c = LastOf.code one in
    let byte = last-byte text one in
    ⊎_elim
    (λ (short : c < 128). LastOf.class one
    ∙ ap class_of (sym (byte ∙ ap (λ bs. get_or bs (length bs - 1) 0) (encode-one c short))))
    (λ (large : 128 ≤ c). absurd (omega (arith, small, byte, last-large c large)))
    (cases_lt c 128)

pub last-long : (text : List ℕ) → IsUtf8 text → 0 < length text →
    128 ≤ get_or text (length text - 1) 0 → EndsLong text
last-long text utf8 some large =
    let one = last-of text utf8 some in
    let c = LastOf.code one in
    let byte = last-byte text one in
    ⊎_elim
    (λ (short : c < 128). absurd (omega (
      arith,
      large,
      byte,
      short,
      ap (λ bs. get_or bs (length bs - 1) 0) (encode-one c short),
    )))
    (λ (long : 128 ≤ c). record {
      before = LastOf.before one;
      code = c;
      scalar = LastOf.scalar one;
      large = long;
      text_is = LastOf.text_is one;
      class = LastOf.class one;
    })
    (cases_lt c 128)

-- ---- the class of a character of ASCII

pub ascii-punctuation : (c : ℕ) → c < 128 → is_punctuation_character c ≡ is_ascii_punctuation c
unfolding ucd_category
ascii-punctuation c small =
    agree_below_at is_punctuation_character is_ascii_punctuation 128 c refl small

pub ascii-space : (c : ℕ) → c < 128 → is_white_space c ≡ is_ascii_space c
unfolding ucd_category
ascii-space c small = agree_below_at is_white_space is_ascii_space 128 c refl small

pub first-none : (text : List ℕ) → None ≡ slice_get text 0 → Space ≡ class_of_first (chars text)
first-none [] none = ap class_of_first (sym chars-nil)
first-none (b ∷ bs) none = absurd (false≢true (ap is_some none))

pub last-none : (text : List ℕ) → length text ≡ 0 → Space ≡ class_of_last (chars text)
last-none [] none = ap class_of_last (sym chars-nil)
last-none (b ∷ bs) none = absurd (omega (arith, none))
