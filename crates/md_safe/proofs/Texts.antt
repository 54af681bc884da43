-- Texts that are escaped: line endings, digits, numbers and the text of code. They
-- may stand anywhere.
use Rattle.std.proofs.Common.{◌≡◌, ℕ, ◌-◌, ◌<◌, ◌/◌, ◌%◌, ◌==◌, zero, suc, Bool, true, false, not}
use Rattle.std.proofs.Common.{◌&&◌, ◌||◌, cond, List, [], ◌∷◌, ◌++◌, length, take, drop, refl, sym}
use Rattle.std.proofs.Common.{ap, subst, arith, append_assoc, append-nil, eqb-true}
use Rattle.std.specs.Fmt.{decimal, digits, digits_onto, digit_glyph}
use Rattle.std.specs.List.{list_all}
use Rattle.std.proofs.lemmas.Bool.{and_parts, cond_both, agree_below_at, and_from}
use Rattle.md_text.specs.References.{is_escaped}
use Rattle.md_text.specs.Laws.{is_line_ends}
use Rattle.md_text.proofs.EscapedLemmas.{completes_reference, escaped-tail, escaped-without}
use Rattle.md_meaning.specs.Meaning.Spans.{is_at, without_escapes, trimmed}
use Rattle.md_meaning.specs.Meaning.Blocks.{without_zeros}
use Rattle.md_content.specs.Built.{is_digit}

-- a text is escaped
abbrev pub Escaped : List ℕ → Type 0
Escaped text = is_escaped text ≡ true

-- a byte that is no special character
abbrev pub is_plain : ℕ → Bool
is_plain b = not ((b == 0) || (b == 60) || (b == 62) || (b == 34)) && not (b == 38)

plain_first : (b : ℕ) (rest : List ℕ) → is_plain b ≡ true → Escaped rest → Escaped (b ∷ rest)
plain_first b rest plain h = by ((b == 0) || (b == 60) || (b == 62) || (b == 34)) (b == 38) plain
  where
    by : (special and : Bool) → (not special && not and) ≡ true →
        ((cond special false (cond and (completes_reference rest) true)) && is_escaped rest) ≡ true
    by special and e = grind (arith, h, e)

pub line_ends-escaped : (text : List ℕ) → is_line_ends text ≡ true → Escaped text
line_ends-escaped [] h = refl
line_ends-escaped (b ∷ text) h =
    let parts = and_parts ((b == 13) || (b == 10)) (is_line_ends text) h in
    plain_first b text (grind arith) (line_ends-escaped text parts.1)

pub digit-plain : (b : ℕ) → is_digit b ≡ true → is_plain b ≡ true
digit-plain b h = grind arith

pub digits-escaped : (text : List ℕ) → list_all is_digit text ≡ true → Escaped text
digits-escaped [] h = refl
digits-escaped (b ∷ text) h = grind (arith, plain_first b text, digit-plain b, digits-escaped text)

-- digits without the zeros before them are digits
pub zeros-escaped : (text : List ℕ) → list_all is_digit text ≡ true → Escaped (without_zeros text)
zeros-escaped [] h = refl
zeros-escaped (b ∷ text) h = grind (arith, cond_both, and_parts, digits-escaped, zeros-escaped text)

pub glyph-digit : (d : ℕ) → d < 10 → is_digit (digit_glyph false d) ≡ true
glyph-digit d l = agree_below_at (λ d. is_digit (digit_glyph false d)) (λ d. true) 10 d refl l

onto-digits : (k n : ℕ) (acc : List ℕ) → list_all is_digit acc ≡ true →
    list_all is_digit (digits_onto k 10 false n acc) ≡ true
onto-digits zero n acc h = h
onto-digits (suc k) n acc h =
    let later = onto-digits k (n / 10) (digit_glyph false (n % 10) ∷ acc) in
    grind (arith, and_from, glyph-digit, cond_both, later)

pub decimal-digits : (n : ℕ) → list_all is_digit (decimal n) ≡ true
unfolding digits
decimal-digits n = onto-digits 64 n [] refl

pub decimal-escaped : (n : ℕ) → Escaped (decimal n)
decimal-escaped n = digits-escaped (decimal n) (decimal-digits n)

-- the pipes' backslashes go
pipes : (text front : List ℕ) → Escaped (front ++ text) → Escaped (front ++ without_escapes text)
pipes [] front h = h
pipes (b ∷ text) front h =
    let more = pipes text (front ++ (b ∷ [])) in
    grind (arith, cond_both, eqb-true, escaped-without, append_assoc, pipes text front, more)

pub pipes-escaped : (text : List ℕ) → Escaped text → Escaped (without_escapes text)
pipes-escaped text h = pipes text [] h

-- a text that ends in a space, without it
record Trim (b : ℕ) (text : List ℕ) : Type 0 where
  front : List ℕ
  whole : b ∷ text ≡ front ++ (32 ∷ [])
  cut : take (length text) (b ∷ text) ≡ front

trim_last : (b : ℕ) (text : List ℕ) → is_at 32 (b ∷ text) (length text) ≡ true → Trim b text
trim_last b [] h = record { front = []; whole = ap (λ b. b ∷ []) (eqb-true b 32 h); cut = refl }
trim_last b (c ∷ text) h = grind (arith, trim_last c text h)

cut_last : (c : ℕ) (text : List ℕ) → is_at 32 (c ∷ text) (length text) ≡ true → Escaped (c ∷ text) →
    Escaped (take (length text) (c ∷ text))
cut_last c text last h =
    let r = trim_last c text last in
    let front : Escaped (r.front ++ []) =
    escaped-without 32 r.front [] refl (subst Escaped r.whole h) in
    subst Escaped (sym r.cut) (subst Escaped (append-nil r.front) front)

abbrev is_padded : List ℕ → Bool
is_padded text =
    is_at 32 text 0 && is_at 32 text (length text - 1) && not (list_all (λ byte. byte == 32) text)

trim_both : (text : List ℕ) → Escaped text → is_padded text ≡ true →
    Escaped (take (length text - 2) (drop 1 text))
trim_both [] h padded = refl
trim_both (b ∷ []) h padded = refl
trim_both (b ∷ c ∷ text) h padded =
    let all = and_parts _ _ padded in
    let ends = and_parts _ _ all.0 in
    let size : length (b ∷ c ∷ text) - 1 ≡ suc (length text) = omega arith in
    let cut : length (b ∷ c ∷ text) - 2 ≡ length text = omega arith in
    let last : is_at 32 (c ∷ text) (length text) ≡ true = subst (λ n. is_at 32 (b ∷ c ∷ text) n ≡
    true) size ends.1 in
    subst (λ n. Escaped (take n (c ∷ text))) (sym cut)
    (cut_last c text last (escaped-tail b (c ∷ text) h))

pub trimmed-escaped : (text : List ℕ) → Escaped text → Escaped (trimmed text)
trimmed-escaped text h = cond_both _ _ _ Escaped (trim_both text h) (λ _. h)
