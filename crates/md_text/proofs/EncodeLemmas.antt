-- Escaping, by bytes and by characters, and at one byte that doesn't stay.
use Rattle.std.proofs.Common.{◌≡◌, ◌≢◌, ℕ, ◌+◌, ◌<◌, ◌≤◌, Bool, true, false, ◌&&◌, eqb, List, []}
use Rattle.std.proofs.Common.{◌∷◌, ◌++◌, length, get_or, take, drop, refl, sym, ap, ◌∙◌}
use Rattle.std.proofs.Common.{encode_utf8, encode_utf8_all, arith, ne_eqb, append-nil, add-one}
use Rattle.std.proofs.Common.{drop-cons, IsUtf8}
use Rattle.std.proofs.lemmas.List.{take-append-drop}
use Rattle.std.specs.List.{flat_map}
use Rattle.std.specs.Str.{chars}
use Rattle.std.proofs.lemmas.Bool.{cases_lt}
use Rattle.std.proofs.lemmas.Grind.{flat_map-append}
use Rattle.std.proofs.lemmas.Str.{encode_ascii, encodes-append, encodes-chars}
use Rattle.md_text.specs.Encode.{encoded, encoded_byte, encoded_character}
use Rattle.md_text.proofs.HighBytes.{AllHigh, encode_utf8-high}

-- escaping a text piece by piece
pub encoded-append : (html : Bool) (x y : List ℕ) →
    encoded html (x ++ y) ≡ encoded html x ++ encoded html y
encoded-append html x y = flat_map-append (encoded_byte html) x y

-- a character that none of the five tests picks out stays
pub encoded_byte-plain : (html : Bool) (b : ℕ) → eqb b 0 ≡ false → (html && eqb b 38) ≡ false →
    (html && eqb b 34) ≡ false → (html && eqb b 60) ≡ false → (html && eqb b 62) ≡ false →
    encoded_byte html b ≡ b ∷ []
encoded_byte-plain html b e0 e1 e2 e3 e4 = simp (e0, e1, e2, e3, e4)

pub and_false : (b : Bool) → (b && false) ≡ false
and_false b = grind arith

pub encoded_byte-high : (html : Bool) (b : ℕ) → 128 ≤ b → encoded_byte html b ≡ b ∷ []
encoded_byte-high html b h = grind arith

pub encoded-high : (html : Bool) (bs : List ℕ) → AllHigh bs → encoded html bs ≡ bs
encoded-high html [] h = refl
encoded-high html (b ∷ bs) h = rw (encoded_byte-high html b h.0, encoded-high html bs h.1) refl

-- a character that stays
pub encoded-plain : (html : Bool) (c : ℕ) → eqb c 0 ≡ false → (html && eqb c 38) ≡ false →
    (html && eqb c 34) ≡ false → (html && eqb c 60) ≡ false → (html && eqb c 62) ≡ false →
    encoded html (encode_utf8 c) ≡ encode_utf8 c
encoded-plain html c e0 e1 e2 e3 e4 =
    grind (
      arith,
      cases_lt,
      encode_ascii,
      append-nil,
      encoded_byte-plain,
      encoded-high,
      encode_utf8-high,
    )

-- the five characters that don't stay, and any other
pub by_special : (P : ℕ → Type 0) → P 0 → P 38 → P 34 → P 60 → P 62 →
    ((c : ℕ) → c ≢ 0 → c ≢ 38 → c ≢ 34 → c ≢ 60 → c ≢ 62 → P c) → (c : ℕ) → P c
by_special P p0 p38 p34 p60 p62 other c = grind arith

pub not_special : (html : Bool) (c n : ℕ) → c ≢ n → (html && eqb c n) ≡ false
not_special html c n ne = ap (λ b. html && b) (ne_eqb c n ne) ∙ and_false html

encoded_character-plain : (html : Bool) (b : ℕ) → eqb b 0 ≡ false → (html && eqb b 38) ≡ false →
    (html && eqb b 34) ≡ false → (html && eqb b 60) ≡ false → (html && eqb b 62) ≡ false →
    encoded_character html b ≡ b ∷ []
encoded_character-plain html b e0 e1 e2 e3 e4 = simp (e0, e1, e2, e3, e4)

encoded-other : (html : Bool) (c : ℕ) → c ≢ 0 → c ≢ 38 → c ≢ 34 → c ≢ 60 → c ≢ 62 →
    encoded html (encode_utf8 c) ≡ encode_utf8_all (encoded_character html c)
encoded-other html c n0 n38 n34 n60 n62 =
    grind (arith, ne_eqb, not_special, encoded-plain, encoded_character-plain, append-nil)

-- a character by its bytes
pub encoded-encode_utf8 : (html : Bool) (c : ℕ) → encoded html (encode_utf8 c)
    ≡ encode_utf8_all (encoded_character html c)
unfolding lib.Utf8.encode
encoded-encode_utf8 true c =
    by_special (λ c. encoded true (encode_utf8 c) ≡ encode_utf8_all (encoded_character true c)) refl
    refl refl refl
    refl (encoded-other true) c
encoded-encode_utf8 false c =
    by_special (λ c. encoded false (encode_utf8 c) ≡ encode_utf8_all (encoded_character false c))
    refl refl refl refl refl (encoded-other false) c

pub encoded-encodes : (html : Bool) (cs : List ℕ) → encoded html (encode_utf8_all cs)
    ≡ encode_utf8_all (flat_map (encoded_character html) cs)
encoded-encodes html [] = refl
encoded-encodes html (c ∷ cs) =
    simp (encoded-append, encoded-encode_utf8, encoded-encodes html cs, encodes-append)

-- a text by its characters
pub encoded-chars : (html : Bool) (text : List ℕ) → IsUtf8 text →
    encoded html text ≡ encode_utf8_all (flat_map (encoded_character html) (chars text))
encoded-chars html text utf8 =
    ap (encoded html) (sym (encodes-chars text utf8)) ∙ encoded-encodes html (chars text)

-- a text at one of its bytes
split : (bs : List ℕ) (i : ℕ) → i < length bs → take i bs ++ get_or bs i 0 ∷ drop (i + 1) bs ≡ bs
split bs i h = grind (arith, add-one, drop-cons, take-append-drop)

-- escaped, where what comes before the byte stays
pub encoded-at : (html : Bool) (bs other : List ℕ) (i : ℕ) → i < length bs →
    encoded html (take i bs) ≡ take i bs →
    encoded_byte html (get_or bs i 0) ≡ other →
    take i bs ++ (other ++ encoded html (drop (i + 1) bs)) ≡ encoded html bs
encoded-at html bs other i h plain same =
    rw (← same, ← plain, ← encoded-append html (take i bs) (get_or bs i 0 ∷ drop (i + 1) bs))
    (ap (encoded html) (split bs i h))
