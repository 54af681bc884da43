-- Marks as the bits of a number: after a shift, and the lowest of them.
use Rattle.std.proofs.Common.{◌≡◌, ℕ, ◌+◌, ◌-◌, ◌*◌, ◌/◌, ◌%◌, ◌^◌, ◌<◌, ◌≤◌}
use Rattle.std.proofs.Common.{Bool, true, false, not, ◌&&◌, List, length, get_or, drop}
use Rattle.std.proofs.Common.{refl, sym, ap, ap₂, ◌∙◌, arith, subst, w64, ⊎_elim}
use Rattle.std.specs.Prelude.{◌⊎◌, if◌then◌else◌}
use Rattle.std.specs.Int.{bit_at, trailing_zeros}
use Rattle.std.proofs.lemmas.Nat.{pow-add, pow_below, div_below, div-add-mod', pow_pos}
use Rattle.std.proofs.Math.Nat.{mod-lt}
use Rattle.std.proofs.lemmas.Nat.Bits.{bit_at-trailing_zeros, bit_at_above, bit_at-zero}
use Rattle.std.proofs.lemmas.Nat.Bits.{bit_at_cat_high}
use Rattle.std.proofs.lemmas.List.{get_or-drop}
use Rattle.std.proofs.lemmas.Bool.{cases_lt}
use Rattle.md_lines.specs.Classes.{is_mark}
use Rattle.md_marks.specs.NextMark.{AreMarks, is_mark_at, is_plain_at}

-- ---- a shift

bit-shifted : (n p i : ℕ) → n % 2 ^ p < 2 ^ p → bit_at (n / 2 ^ p) i ≡ bit_at n (p + i)
bit-shifted n p i low =
    let high = bit_at_cat_high (n / 2 ^ p) p (n % 2 ^ p) (p + i) low (omega arith) in
    let back : p + i - p ≡ i = omega arith in
    ap (bit_at (n / 2 ^ p)) (sym back) ∙ sym high
    ∙ ap (λ m. bit_at m (p + i)) (div-add-mod' n (2 ^ p))

abbrev tested : Bool → ℕ
tested b = if b then 1 else 0

shifted : (bytes : List ℕ) (block at bits p : ℕ) → at ≡ block + p → p < 32 →
    AreMarks (drop block bytes) 32 bits → AreMarks (drop at bytes) (32 - p) (bits / 2 ^ p)
shifted bytes block at bits p here small are =
    let whole : 32 - p + p ≡ 32 = omega (arith, small) in
    let wide : bits < 2 ^ (32 - p) * 2 ^ p =
    subst (λ n. bits < n) (ap (λ k. 2 ^ k) (sym whole) ∙ pow-add 2 (32 - p) p) are.0 in (
      div_below bits (2 ^ p) (2 ^ (32 - p)) (pow_pos p) wide,
      λ k below. bit-shifted bits p k (mod-lt bits (pow_pos p)) ∙ are.1 (p + k) (omega (arith, below))
          ∙ ap (λ byte. tested (is_mark byte)) (get_or-drop block bytes (p + k) 0
          ∙ ap (λ i. get_or bytes i 0) (omega (arith, here)) ∙ sym (get_or-drop at bytes k 0)),
    )

-- the block that is known, at an index in it
pub shifted-known : (bytes : List ℕ) (block at bits passed : ℕ) →
    passed ≡ (at + (18446744073709551616 - block)) % 18446744073709551616 → passed < 32 →
    at < length bytes → length bytes < 9223372036854775808 →
    ((block ≡ 9223372036854775807) ⊎
    ((block + 32 ≤ length bytes) × AreMarks (drop block bytes) 32 bits)) →
    AreMarks (drop at bytes) (32 - passed) (bits / 2 ^ passed)
shifted-known bytes block at bits passed is small within short known = ⊎_elim
    (λ (unread : block ≡ 9223372036854775807).
    absurd (omega (arith, is, small, within, short, unread)))
    (λ (read : (block + 32 ≤ length bytes) × AreMarks (drop block bytes) 32 bits). shifted bytes block
    at bits passed (omega (arith, is, small, within, short, read.0)) small read.1) known

-- the block that was read for an index
pub shifted-read : (bytes : List ℕ) (block at bits : ℕ) → block ≤ at → at < block + 32 →
    AreMarks (drop block bytes) 32 bits →
    AreMarks (drop at bytes) (32 - (at - block)) (bits / 2 ^ (at - block))
shifted-read bytes block at bits le lt are =
    shifted bytes block at bits (at - block) (omega (arith, le)) (omega (arith, le, lt)) are

-- ---- the lowest mark

untested : (b : Bool) → 0 ≡ tested b → b ≡ false
untested true e = absurd (omega (arith, e))
untested false e = refl

is-tested : (b : Bool) → 1 ≡ tested b → b ≡ true
is-tested true e = refl
is-tested false e = absurd (omega (arith, e))

-- ---- what a search has passed

-- no mark from one index to another, before an end
abbrev pub NoneBetween : List ℕ → ℕ → ℕ → ℕ → Type 0
NoneBetween bytes from at end =
    (k : ℕ) → from ≤ k → k < at → k < end → is_mark_at bytes k ≡ false

no-mark : (bytes : List ℕ) (k : ℕ) → is_mark (get_or bytes k 0) ≡ false → is_mark_at bytes k ≡ false
no-mark bytes k none = ap (λ b. b && not (is_plain_at bytes k)) none

joined : (bytes : List ℕ) (from middle at end : ℕ) → NoneBetween bytes from middle end →
    NoneBetween bytes middle at end → NoneBetween bytes from at end
joined bytes from middle at end first second k le lt within = ⊎_elim
    (λ (below : k < middle). first k le below within)
    (λ (above : middle ≤ k). second k above lt within) (cases_lt k middle)

-- a mark's class at an index from a place on is a bit
bit-of : (bytes : List ℕ) (at count bits k : ℕ) → AreMarks (drop at bytes) count bits → at ≤ k →
    k < at + count → bit_at bits (k - at) ≡ tested (is_mark (get_or bytes k 0))
bit-of bytes at count bits k are le lt =
    are.1 (k - at) (omega (arith, le, lt))
    ∙ ap (λ byte. tested (is_mark byte)) (get_or-drop at bytes (k - at) 0
    ∙ ap (λ i. get_or bytes i 0) (omega (arith, le)))

pub passed-block : (bytes : List ℕ) (from at count bits end : ℕ) →
    AreMarks (drop at bytes) count bits → bits ≡ 0 → NoneBetween bytes from at end →
    NoneBetween bytes from (at + count) end
passed-block bytes from at count bits end are none before =
    joined bytes from at (at + count) end before (λ k le lt within. no-mark bytes k
    (untested (is_mark (get_or bytes k 0)) (sym (bit_at-zero (k - at))
    ∙ ap (λ n. bit_at n (k - at)) (sym none) ∙ bit-of bytes at count bits k are le lt)))

pub passed-plain : (bytes : List ℕ) (from at end : ℕ) → is_plain_at bytes at ≡ true →
    NoneBetween bytes from at end → NoneBetween bytes from (at + 1) end
passed-plain bytes from at end plain before =
    joined bytes from at (at + 1) end before (λ k le lt within.
    subst (λ i. is_mark_at bytes i ≡ false) (omega (arith, le, lt))
    (ap (λ b. is_mark (get_or bytes at 0) && not b) plain ∙ and-false (is_mark (get_or bytes at 0))))
  where
    and-false : (b : Bool) → (b && false) ≡ false
    and-false true = refl
    and-false false = refl

pub passed-one : (bytes : List ℕ) (from at end : ℕ) → is_mark_at bytes at ≡ false →
    NoneBetween bytes from at end → NoneBetween bytes from (at + 1) end
passed-one bytes from at end none before =
    joined bytes from at (at + 1) end before (λ k le lt within.
    subst (λ i. is_mark_at bytes i ≡ false) (omega (arith, le, lt)) none)

module _ (bytes : List ℕ) (at count bits : ℕ) (are : AreMarks (drop at bytes) count bits)
    (some : 0 < bits) (few : count ≤ 32) where
  abbrev zeros : ℕ
  zeros = trailing_zeros w64 bits

  lowest : (zeros < 64) × (bit_at bits zeros ≡ 1) × ((i : ℕ) → i < zeros → bit_at bits i ≡ 0)
  lowest = bit_at-trailing_zeros w64 bits some
      (omega (arith, are.0, pow_below count 64 (omega (arith, few))))

  zeros-fewer : zeros < count
  zeros-fewer = ⊎_elim (λ (lt : zeros < count). lt)
      (λ (le : count ≤ zeros).
      absurd (omega (arith, lowest.1, bit_at_above bits count zeros are.0 le)))
      (cases_lt zeros count)

  pub passed-to-lowest : (from end : ℕ) → NoneBetween bytes from at end →
      NoneBetween bytes from (at + zeros) end
  passed-to-lowest from end before = joined bytes from at (at + zeros) end before
      (λ k le lt within. no-mark bytes k (untested (is_mark (get_or bytes k 0))
      (sym (lowest.2 (k - at) (omega (arith, le, lt)))
      ∙ bit-of bytes at count bits k are le (omega (arith, lt, zeros-fewer)))))

  pub is-lowest : is_plain_at bytes (at + zeros) ≡ false → is_mark_at bytes (at + zeros) ≡ true
  is-lowest plain =
      let here : at + zeros - at ≡ zeros = omega arith in
      let class = is-tested (is_mark (get_or bytes (at + zeros) 0)) (sym lowest.1
      ∙ ap (bit_at bits) (sym here)
      ∙ bit-of bytes at count bits (at + zeros) are (omega arith) (omega (arith, zeros-fewer))) in
      ap₂ (λ a b. a && not b) class plain
