-- Which bytes are ASCII, from the masks of loads.
use Rattle.std.proofs.Common.{◌≡◌, ℕ, ◌+◌, ◌%◌, ◌^◌, ◌<◌, ◌≤◌, eqb, leb, cond, true, List, map}
use Rattle.std.proofs.Common.{length, get_or, replicate, arith}
use Rattle.std.proofs.lemmas.Bool.{eqb-true}
use Rattle.std.proofs.lemmas.List.{length-map}
use Rattle.std.proofs.lemmas.Simd.{map-map, mask_l-mod, length-chunk, zip2_splat_left}
use Rattle.std.proofs.lemmas.Simd.{none_from_empty_mask}
use lib.Lanes.{chunk, mask_l, top, zip2}

-- a load none of whose lanes is 128 or more
pub ascii_in : (xs : List ℕ) (i n : ℕ) → i + n ≤ length xs → n ≤ 64 →
    eqb (mask_l (map (top 7) (zip2 (λ a b. cond (leb a b) 255 0) (replicate n 128) (chunk i n xs)))
    % 2 ^ 64) 0 ≡ true →
    (k : ℕ) → i ≤ k → k < i + n → get_or xs k 0 < 128
ascii_in xs i n room few none k from to =
    let v = chunk i n xs in
    let p = λ (x : ℕ). top 7 (cond (leb 128 x) 255 0) in
    let long = length-chunk i n xs room in
    let lanes = zip2_splat_left {Z = ℕ} (λ a b. cond (leb a b) 255 0) 128 n v long in
    let mask = mask_l-mod (map p v) 64 (omega (arith, length-map v p, long)) in
    let empty = rw (lanes, map-map, mask) at (eqb-true _ 0 none) in
    let low = none_from_empty_mask p xs i n 0 room empty k from to in
    grind (arith, low)
