-- Bytes that one step reads: from the mask of a load to the number of its bytes before the first
-- that fails.
use Rattle.std.proofs.Common.{◌≡◌, ℕ, ◌+◌, ◌%◌, ◌^◌, ◌<◌, ◌≤◌, eqb, Bool, true, not, cond}
use Rattle.std.proofs.Common.{List, [], ◌∷◌, map, length, get_or, take, drop, min, Fits, w8, refl}
use Rattle.std.proofs.Common.{arith, zero, suc}
use Rattle.std.proofs.lemmas.Bool.{agree_below, agree_below_at}
use Rattle.std.proofs.lemmas.Simd.{map-map, mask_l-mod, length-chunk, chunk-fits, first_set_mask_l}
use Rattle.std.proofs.lemmas.List.{length-map}
use Rattle.std.proofs.lemmas.List.Sums.{prefix_len-le-length}
use Rattle.std.specs.List.{prefix_len}
use lib.Count.{count_trailing_zeros}
use lib.Lanes.{Each1, chunk, mask_l, top}

-- if some pass, the others are in the rest
pub prefix_len-drop : (q : ℕ → Bool) (i : ℕ) (xs : List ℕ) → i ≤ prefix_len q xs →
    prefix_len q xs ≡ i + prefix_len q (drop i xs)
prefix_len-drop q zero xs le = grind arith
prefix_len-drop q (suc i) [] le = grind arith
prefix_len-drop q (suc i) (x ∷ xs) le = grind (arith, prefix_len-drop q i xs)

-- of the first n
prefix_len-take : (q : ℕ → Bool) (n : ℕ) (xs : List ℕ) →
    prefix_len q (take n xs) ≡ min n (prefix_len q xs)
prefix_len-take q zero xs = omega arith
prefix_len-take q (suc n) [] = omega arith
prefix_len-take q (suc n) (x ∷ xs) = let rest = prefix_len-take q n xs in grind (arith, rest)

-- two tests that agree on bytes
prefix_len-agree : (p q : ℕ → Bool) → agree_below p q 256 ≡ true → (xs : List ℕ) →
    Each1 (Fits w8) xs →
    prefix_len p xs ≡ prefix_len q xs
prefix_len-agree p q all [] fits = refl
prefix_len-agree p q all (x ∷ xs) fits =
    rw (agree_below_at p q 256 x all fits.0.fits, prefix_len-agree p q all xs fits.1) refl

-- a load of n bytes and a lane-wise function f of it, whose top bit is set exactly where q fails
pub run_is : (q : ℕ → Bool) (d : List ℕ) (i n r : ℕ) (z : List ℕ) → i + n ≤ length d → n ≤ 64 →
    ((k : ℕ) → Fits w8 (get_or d k 0)) →
    r ≡ cond (eqb (mask_l (map (top 7) z) % 2 ^ 64) 0) n
    (count_trailing_zeros 64 (mask_l (map (top 7) z) % 2 ^ 64)) →
    (f : ℕ → ℕ) → z ≡ map f (chunk i n d) → agree_below (λ x. not (top 7 (f x))) q 256 ≡ true →
    r ≡ min n (prefix_len q (drop i d))
run_is q d i n r z room few fits found f lanes all =
    let v = chunk i n d in
    let p = λ (x : ℕ). top 7 (f x) in
    let long = length-chunk i n d room in
    let mask = mask_l-mod (map p v) 64 (omega (arith, length-map v p, long)) in
    rw (
      found,
      lanes,
      map-map,
      mask,
      first_set_mask_l p v n long few,
      prefix_len-agree (λ x. not (p x)) q all v (chunk-fits w8 i n d fits),
    ) (prefix_len-take q n (drop i d))

-- a load from a place up to which all pass: it finds where the run ends, or all of it pass
pub run_ends : (q : ℕ → Bool) (d : List ℕ) (i n r : ℕ) → i ≤ prefix_len q d →
    r ≡ min n (prefix_len q (drop i d)) →
    r < n → i + r ≡ prefix_len q d
run_ends q d i n r seen is short = omega (arith, prefix_len-drop q i d seen)

pub run_goes_on : (q : ℕ → Bool) (d : List ℕ) (i n r : ℕ) → i ≤ prefix_len q d →
    r ≡ min n (prefix_len q (drop i d)) → n ≤ r → i + n ≤ prefix_len q d
run_goes_on q d i n r seen is whole = omega (arith, prefix_len-drop q i d seen)

-- one that reaches to the end
pub run_at_end : (q : ℕ → Bool) (d : List ℕ) (i n r : ℕ) → i ≤ prefix_len q d → length d ≤ i + n →
    r ≡ min n (prefix_len q (drop i d)) → i + r ≡ prefix_len q d
run_at_end q d i n r seen reaches is = grind (arith, prefix_len-drop, prefix_len-le-length)
