-- A normalized URL stays as it is, and one with no `&` is its own escaped text: so to sanitize
-- twice is to do it once.
use Rattle.std.proofs.Common.{arith, ◌≡◌, ◌≢◌, ℕ, ◌==◌, ◌<◌, true, false, not, ◌&&◌, ◌||◌, cond}
use Rattle.std.proofs.Common.{eqb, List, [], ◌∷◌, ◌++◌, All, refl, sym, ap, ap₂, ◌∙◌, inl, inr}
use Rattle.std.proofs.lemmas.Bool.{cases_Bool, or_cases, and_parts, or_left}
use Rattle.std.proofs.lemmas.Bool.{or_right, and_from, both_ways}
use Rattle.std.proofs.lemmas.List.Elements.{All-nil, All-cons, All-head, All-tail, All-append}
use Rattle.std.proofs.lemmas.List.Elements.{All-from_recursion}
use Rattle.md_text.specs.Encode.{encoded}
use Rattle.md_text.specs.Url.{is_triple_byte, stays, stays_anywhere, completes_triple}
use Rattle.md_text.specs.Url.{normalized_byte, normalized_url, percent, sanitized}
use Rattle.md_text.specs.Laws.{AreBytes}
use Rattle.md_text.proofs.UrlLemmas.{encoded_byte-stays}
use Rattle.md_text.proofs.UrlLaws.{IsUrl, IsByte, AreUrlBytes, normalized-url, url_stays}
use Rattle.md_text.proofs.UrlLaws.{hex_digit-stays, hex_digit-plain, hex_digit-no_and, high_digit}
use Rattle.md_text.proofs.UrlLaws.{low_digit}

-- a byte that stays is the same
normalized_byte-stays : (b : ℕ) (rest : List ℕ) → stays b rest ≡ true →
    normalized_byte b rest ≡ b ∷ []
normalized_byte-stays b rest s = ap (λ t. cond t (b ∷ []) (percent b)) s

normalized-stays : (b : ℕ) (rest : List ℕ) → stays b rest ≡ true →
    normalized_url (b ∷ rest) ≡ b ∷ normalized_url rest
normalized-stays b rest s = ap (λ x. x ++ normalized_url rest) (normalized_byte-stays b rest s)

stays-anywhere : (b : ℕ) (rest : List ℕ) → stays_anywhere b ≡ true → stays b rest ≡ true
stays-anywhere b rest e = or_left (stays_anywhere b) ((b == 37) && completes_triple rest) e

-- such a byte stays anywhere
plain_or_not : (b : ℕ) → b < 256 → (not (is_triple_byte b) || stays_anywhere b) ≡ true
plain_or_not b l = grind arith

plain-stays : (b : ℕ) → b < 256 → is_triple_byte b ≡ true → stays_anywhere b ≡ true
plain-stays b l e = ap (λ t. not t || stays_anywhere b) (sym e) ∙ plain_or_not b l

-- a percent triple stays one
pub completes-normalized : (rest : List ℕ) → AreBytes rest → completes_triple rest ≡ true →
    completes_triple (normalized_url rest) ≡ true
completes-normalized [] h e = cc
completes-normalized (a ∷ []) h e = cc
completes-normalized (a ∷ b ∷ rest) h e =
    let first = plain-stays a (All-head IsByte a (b ∷ rest) h) (grind (arith, e)) in
    let second = plain-stays b (All-head IsByte b rest (All-tail IsByte a (b ∷ rest) h))
    (grind (arith, e)) in
    rw (
      normalized-stays a (b ∷ rest) (stays-anywhere a (b ∷ rest) first),
      normalized-stays b rest (stays-anywhere b rest second),
    ) e

stays-normalized : (b : ℕ) (rest : List ℕ) → AreBytes rest → stays b rest ≡ true →
    stays b (normalized_url rest) ≡ true
stays-normalized b rest h s =
    grind (arith, or_cases, stays-anywhere, and_parts, or_right, and_from, completes-normalized)

normalized-percent : (h1 h2 : ℕ) (rest : List ℕ) → stays_anywhere h1 ≡ true →
    stays_anywhere h2 ≡ true →
    is_triple_byte h1 ≡ true → is_triple_byte h2 ≡ true →
    normalized_url (37 ∷ h1 ∷ h2 ∷ rest) ≡ 37 ∷ h1 ∷ h2 ∷ normalized_url rest
normalized-percent h1 h2 rest s1 s2 p1 p2 = grind arith

pub normalized-twice : (x : List ℕ) → AreBytes x →
    normalized_url (normalized_url x) ≡ normalized_url x
normalized-twice [] h = refl
normalized-twice (b ∷ rest) h =
    let later = normalized-twice rest (All-tail IsByte b rest h) in
    let stay = stays-normalized b rest (All-tail IsByte b rest h) in
    let high = high_digit b (All-head IsByte b rest h) in
    elim (cases_Bool (stays b rest)) [
      | inl s ↦ simp (normalized-stays, s, stay s, later)
      | inr gone ↦ rw gone (simp (
        normalized-percent,
        hex_digit-stays,
        hex_digit-plain,
        high,
        low_digit,
        later,
      ))
    ]

-- no `&` comes from bytes that are none
abbrev NoAnd : ℕ → Type 0
NoAnd b = b ≢ 38

no_and : (b : ℕ) → eqb b 38 ≡ false → b ≢ 38
no_and b e is = both_ways (eqb b 38) e (ap (λ b. eqb b 38) is)

normalized_byte-no_and : (b : ℕ) (rest : List ℕ) → b < 256 → b ≢ 38 →
    All NoAnd (normalized_byte b rest)
normalized_byte-no_and b rest l ne = elim (cases_Bool (stays b rest)) [
  | inl s ↦ rw s (All-cons NoAnd b [] ne (All-nil NoAnd))
  | inr gone ↦ rw gone (All-from_recursion NoAnd (percent b) (
    no_and 37 refl,
    (
      no_and _
          (hex_digit-no_and _ (high_digit b l)),
      (no_and _ (hex_digit-no_and _ (low_digit b)), tt),
    ),
  ))
]

normalized-no_and : (x : List ℕ) → AreBytes x → All NoAnd x → All NoAnd (normalized_url x)
normalized-no_and [] h n = All-nil NoAnd
normalized-no_and (b ∷ rest) h n =
    All-append NoAnd (normalized_byte b rest) (normalized_url rest)
    (normalized_byte-no_and b rest (All-head IsByte b rest h) (All-head NoAnd b rest n))
    (normalized-no_and rest (All-tail IsByte b rest h) (All-tail NoAnd b rest n))

encoded-same : (y : List ℕ) → AreUrlBytes y → All NoAnd y → encoded true y ≡ y
encoded-same [] u n = refl
encoded-same (b ∷ y) u n =
    ap₂ (λ x y. x ++ y) (encoded_byte-stays b (48 ∷ 48 ∷ []) (url_stays b (All-head IsUrl b y u))
    (All-head NoAnd b y n)) (encoded-same y (All-tail IsUrl b y u) (All-tail NoAnd b y n))

pub sanitized-twice : (x : List ℕ) → AreBytes x → All (λ b. b ≢ 38) x →
    sanitized (sanitized x) ≡ sanitized x
sanitized-twice x h n =
    let same = encoded-same (normalized_url x) (normalized-url x h) (normalized-no_and x h n) in
    ap (λ y. encoded true (normalized_url y)) same ∙ ap (encoded true) (normalized-twice x h)
