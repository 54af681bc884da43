-- A sanitized URL is ASCII, and a second time nothing changes where no `&` stands in it: the law
-- `sanitize_is_ascii`.
use Rattle.std.proofs.Common.{◌≡◌, ℕ, ◌==◌, ◌<◌, ◌/◌, ◌%◌, Bool, true, false, ◌||◌, eqb}
use Rattle.std.proofs.Common.{List, [], ◌∷◌, All, refl, arith, inl, inr, codes}
use Rattle.std.proofs.lemmas.Bool.{cases_eq, cases_Bool, agree_below_at, or_cases, and_parts}
use Rattle.std.proofs.lemmas.Bool.{or_left, or_right}
use Rattle.std.proofs.lemmas.List.Elements.{All-nil, All-cons, All-head, All-tail, All-append}
use Rattle.std.proofs.lemmas.List.Elements.{All-from_recursion}
use Rattle.md_text.specs.Encode.{encoded, encoded_byte}
use Rattle.md_text.specs.Url.{is_triple_byte, stays, stays_anywhere}
use Rattle.md_text.specs.Url.{normalized_byte, normalized_url, percent, hex_digit, sanitized}
use Rattle.md_text.specs.Laws.{AreBytes, AreAscii}
use Rattle.md_text.proofs.UrlLemmas.{stays-ascii, encoded_byte-stays}

-- the bytes of a normalized URL: those that stay anywhere, and `%`
abbrev pub is_url_byte : ℕ → Bool
is_url_byte b = stays_anywhere b || (b == 37)

abbrev pub AreUrlBytes : List ℕ → Type 0
AreUrlBytes text = All (λ b. is_url_byte b ≡ true) text

-- a hexadecimal digit is a letter or digit that stays
pub hex_digit-stays : (d : ℕ) → d < 16 → stays_anywhere (hex_digit d) ≡ true
hex_digit-stays d l = agree_below_at (λ d. stays_anywhere (hex_digit d)) (λ d. true) 16 d refl l

pub hex_digit-plain : (d : ℕ) → d < 16 → is_triple_byte (hex_digit d) ≡ true
hex_digit-plain d l = agree_below_at (λ d. is_triple_byte (hex_digit d)) (λ d. true) 16 d refl l

pub hex_digit-no_and : (d : ℕ) → d < 16 → eqb (hex_digit d) 38 ≡ false
hex_digit-no_and d l = agree_below_at (λ d. eqb (hex_digit d) 38) (λ d. false) 16 d refl l

pub high_digit : (b : ℕ) → b < 256 → b / 16 < 16
high_digit b l = omega arith

pub low_digit : (b : ℕ) → b % 16 < 16
low_digit b = omega arith

stays-url : (b : ℕ) (rest : List ℕ) → stays b rest ≡ true → is_url_byte b ≡ true
stays-url b rest s = grind (arith, or_cases, or_left, or_right, and_parts)

abbrev pub IsUrl : ℕ → Type 0
IsUrl b = is_url_byte b ≡ true

abbrev pub IsByte : ℕ → Type 0
IsByte b = b < 256

normalized_byte-url : (b : ℕ) (rest : List ℕ) → b < 256 → AreUrlBytes (normalized_byte b rest)
normalized_byte-url b rest l = elim (cases_Bool (stays b rest)) [
  | inl s ↦ rw s (All-cons IsUrl b [] (stays-url b rest s) (All-nil IsUrl))
  | inr gone ↦ rw gone (All-from_recursion IsUrl (percent b)
      (search (or_left, hex_digit-stays, high_digit b l, low_digit b)))
]

pub normalized-url : (x : List ℕ) → AreBytes x → AreUrlBytes (normalized_url x)
normalized-url [] h = All-nil IsUrl
normalized-url (b ∷ rest) h =
    All-append IsUrl (normalized_byte b rest) (normalized_url rest)
    (normalized_byte-url b rest (All-head IsByte b rest h))
    (normalized-url rest (All-tail IsByte b rest h))

-- such a byte stays before two digits, so it is one that stays
pub url_stays : (b : ℕ) → is_url_byte b ≡ true → stays b (48 ∷ 48 ∷ []) ≡ true
url_stays b u = grind arith

abbrev pub IsAsciiByte : ℕ → Type 0
IsAsciiByte b = b < 128

encoded_byte-ascii : (b : ℕ) → is_url_byte b ≡ true → AreAscii (encoded_byte true b)
encoded_byte-ascii b u = elim (cases_eq b 38) [
  | inl e ↦ rw e (All-from_recursion IsAsciiByte (codes "&amp;") (omega arith))
  | inr ne ↦ rw (encoded_byte-stays b (48 ∷ 48 ∷ []) (url_stays b u) ne)
      (All-cons IsAsciiByte b [] (stays-ascii b (48 ∷ 48 ∷ []) (url_stays b u))
      (All-nil IsAsciiByte))
]

encoded-ascii : (y : List ℕ) → AreUrlBytes y → AreAscii (encoded true y)
encoded-ascii [] h = All-nil IsAsciiByte
encoded-ascii (b ∷ y) h = All-append IsAsciiByte (encoded_byte true b) (encoded true y)
    (encoded_byte-ascii b (All-head IsUrl b y h)) (encoded-ascii y (All-tail IsUrl b y h))

pub sanitized-ascii : (x : List ℕ) → AreBytes x → AreAscii (sanitized x)
sanitized-ascii x h = encoded-ascii (normalized_url x) (normalized-url x h)
