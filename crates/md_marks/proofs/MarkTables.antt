-- The tables of marks, as lanes look them up, and which bytes are marks.
use Rattle.std.proofs.Common.{◌≡◌, ℕ, suc, ◌+◌, ◌*◌, ◌/◌, ◌%◌, ◌^◌, ◌<◌, ◌≤◌, Bool, true, false, not}
use Rattle.std.proofs.Common.{List, [], ◌∷◌, ◌++◌, length, map, get_or, replicate, bit_and, eqb, cond}
use Rattle.std.proofs.Common.{refl, sym, ap, ap₂, lit≤, ◌∙◌, arith, subst, w8, Fits, ⊎_elim}
use Rattle.std.proofs.lemmas.Bool.{agree_below, agree_below_at, eqb-true, cases_lt}
use Rattle.std.proofs.lemmas.Nat.{and_mask, and_le_r}
use Rattle.std.proofs.lemmas.List.{length-map, get_or-map}
use Rattle.std.proofs.lemmas.Simd.{swz_l, get_or-swz_l_below, Each1-all, Each1-weaker}
use Rattle.std.proofs.lemmas.Simd.{Each1-zip2, Each2-splat, below_from_Fits}
use Rattle.std.proofs.lemmas.Simd.{zip2_splat, zip2_of_maps, map-map, length-zip2, bitmask_splat}
use Rattle.std.proofs.lemmas.Simd.{mask_l-lt, bit_mask_l, Each1-get_or}
use lib.Lanes.{Each1, zip2, mask_l, top}
use Rattle.md_lines.specs.Classes.{is_mark}
use Rattle.md_marks.specs.NextMark.{AreMarks, upper_entry, lower_entry}

-- ---- a look-up in a table of sixteen entries that stands twice

-- whether the sixteen entries from a place on are those of another table
abbrev stands : List ℕ → List ℕ → ℕ → Bool
stands twice once from =
    agree_below (λ place. eqb (get_or twice (from + place) 0) (get_or once place 0)) (λ _. true) 16

stands-at : (twice once : List ℕ) (from place : ℕ) → stands twice once from ≡ true → place < 16 →
    get_or twice (from + place) 0 ≡ get_or once place 0
stands-at twice once from place all lt =
    eqb-true (get_or twice (from + place) 0) (get_or once place 0)
    (agree_below_at (λ p. eqb (get_or twice (from + p) 0) (get_or once p 0)) (λ _. true) 16 place
    all lt)

pub looked-up : (twice once : List ℕ) → stands twice once 0 ≡ true → stands twice once 16 ≡ true →
    (lane : ℕ) (places : List ℕ) → Each1 (λ place. place < 16) places → lane + length places ≤ 32 →
    swz_l w8 16 twice lane places ≡ map (λ place. get_or once place 0) places
looked-up twice once low high lane [] small few = refl
looked-up twice once low high lane (place ∷ places) small few =
    let later = looked-up twice once low high (suc lane) places small.1 (omega (arith, few)) in
    ap₂ (λ entry entries. entry ∷ entries)
    (get_or-swz_l_below w8 16 twice lane (place ∷ places) 0 (omega arith) small.0 ∙ at) later
  where
    at : get_or twice (16 * ((lane + 0) / 16) + place) 0 ≡ get_or once place 0
    at = ⊎_elim
        (λ (first : lane < 16). subst (λ from. get_or twice (from + place) 0 ≡ get_or once place 0)
        (omega (arith, first)) (stands-at twice once 0 place low small.0))
        (λ (second : 16 ≤ lane). subst (λ from. get_or twice (from + place) 0 ≡ get_or once place 0)
        (omega (arith, second, few)) (stands-at twice once 16 place high small.0))
        (cases_lt lane 16)

-- ---- the two look-ups

abbrev lower_table : List ℕ
lower_table = 20 ∷ 1 ∷ 0 ∷ 0 ∷ 1 ∷ 0 ∷ 1 ∷ 0 ∷ 0 ∷ 0 ∷ 3 ∷ 8 ∷ 10 ∷ 8 ∷ 33 ∷ 8 ∷ []

abbrev upper_table : List ℕ
upper_table = 0 ∷ 0 ∷ 1 ∷ 2 ∷ 4 ∷ 8 ∷ 16 ∷ 32 ∷ 0 ∷ 0 ∷ 0 ∷ 0 ∷ 0 ∷ 0 ∷ 0 ∷ 0 ∷ []

abbrev down : ℕ → ℕ → ℕ
down a b = a / 2 ^ b

pub lower-small : (v : List ℕ) → Each1 (λ place. place < 16) (zip2 bit_and v (replicate 32 15))
lower-small v = Each1-zip2 bit_and (λ place. place < 16) v (replicate 32 15)
    (Each2-splat (λ a b. bit_and a b < 16) v 32 15
    (Each1-all (λ a. bit_and a 15 < 16) (λ a. omega (arith, and_le_r a 15)) v))

pub upper-small : (v : List ℕ) → Each1 (Fits w8) v →
    Each1 (λ place. place < 16) (zip2 down v (replicate 32 4))
upper-small v fits = Each1-zip2 down (λ place. place < 16) v (replicate 32 4)
    (Each2-splat (λ a b. down a b < 16) v 32 4
    (Each1-weaker (λ a. a < 256) (λ a. a / 16 < 16) (λ a h. omega arith) v
    (below_from_Fits w8 v fits)))

pub by-lower : (v : List ℕ) → length v ≡ 32 →
    swz_l w8 16 (lower_table ++ lower_table) 0 (zip2 bit_and v (replicate 32 15)) ≡ map lower_entry v
by-lower v long =
    looked-up (lower_table ++ lower_table) lower_table refl refl 0 (zip2 bit_and v (replicate 32 15))
    (lower-small v) (omega (arith, length-zip2 bit_and v (replicate 32 15) long, long))
    ∙ ap (map (λ place. get_or lower_table place 0)) (zip2_splat bit_and v 32 15 long)
    ∙ map-map (λ place. get_or lower_table place 0) (λ x. bit_and x 15) v
    ∙ (λ i. map (λ x. get_or lower_table (and_mask x 4 i) 0) v)

pub by-upper : (v : List ℕ) → length v ≡ 32 → Each1 (Fits w8) v →
    swz_l w8 16 (upper_table ++ upper_table) 0 (zip2 down v (replicate 32 4)) ≡ map upper_entry v
by-upper v long fits =
    looked-up (upper_table ++ upper_table) (0 ∷ 0 ∷ 1 ∷ 2 ∷ 4 ∷ 8 ∷ 16 ∷ 32 ∷ []) refl refl 0
    (zip2 down v (replicate 32 4)) (upper-small v fits)
    (omega (arith, length-zip2 down v (replicate 32 4) long, long))
    ∙ ap (map (λ place. get_or (0 ∷ 0 ∷ 1 ∷ 2 ∷ 4 ∷ 8 ∷ 16 ∷ 32 ∷ []) place 0))
    (zip2_splat down v 32 4 long)
    ∙ map-map (λ place. get_or (0 ∷ 0 ∷ 1 ∷ 2 ∷ 4 ∷ 8 ∷ 16 ∷ 32 ∷ []) place 0) (λ x. x / 16) v

-- ---- the marks of a block

abbrev common : ℕ → ℕ
common byte = bit_and (upper_entry byte) (lower_entry byte)

abbrev is_common : ℕ → Bool
is_common byte = not (eqb (common byte) 0)

pub block-marks : (block upper lower : List ℕ) → length block ≡ 32 → Each1 (Fits w8) block →
    upper ≡ map upper_entry block → lower ≡ map lower_entry block →
    AreMarks block 32 (mask_l (map (top 7) (zip2 (λ a b. cond (not (eqb a b)) 255 0)
    (zip2 bit_and upper lower) (replicate 32 0))) % 2 ^ 64)
block-marks block upper lower long fits up low =
    let commons : zip2 bit_and upper lower ≡ map common block =
    zip2_of_maps bit_and upper_entry lower_entry block up low in
    let mask = ap (λ xs. mask_l (map (top 7) (zip2 (λ a b. cond (not (eqb a b)) 255 0) xs
    (replicate 32 0)))
    % 2 ^ 64) commons
    ∙ bitmask_splat w8 (λ a b. not (eqb a b)) (map common block) 32 0
    (omega (arith, length-map block common, long)) (lit≤ tt)
    ∙ ap mask_l (map-map (λ x. not (eqb x 0)) common block) in
    subst (AreMarks block 32) (sym mask) (
      subst (λ n. mask_l (map is_common block) < 2 ^ n) (length-map block is_common ∙ long)
          (mask_l-lt (map is_common block)),
      λ at lt. bit_mask_l (map is_common block) at
          ∙ ap (λ b. cond b 1 0) (get_or-map is_common block at 0 false (omega (arith, lt, long))
          ∙ agree_below_at is_common is_mark 256 (get_or block at 0) refl
          (Fits.fits (Each1-get_or (Fits w8) block at 0 (omega (arith, lt, long)) fits))),
    )
