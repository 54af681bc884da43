-- Sixteen bytes that are compared at once: where they first differ, and where a space is.
use Rattle.std.proofs.Common.{◌≡◌, ℕ, zero, suc, ◌<◌, ◌≤◌, ◌%◌, ◌^◌, Bool, true, false, not, cond}
use Rattle.std.proofs.Common.{eqb, List, [], ◌∷◌, map, length, take, get_or, replicate, refl, sym}
use Rattle.std.proofs.Common.{ap, ◌∙◌, arith, subst, inl, inr, w8}
use Rattle.std.specs.List.{prefix_len}
use Rattle.std.proofs.lemmas.Bool.{cases_eq, eqb-true, not-true, not-false}
use Rattle.std.proofs.lemmas.List.{length-take-le, get_or-take, length-map, get_or-map}
use Rattle.std.proofs.lemmas.List.Sums.{prefix_len_passes, prefix_len_stops}
use Rattle.std.proofs.lemmas.Simd.{tops_compared, bitmask_splat, mask_l-mod, length-zip2}
use Rattle.std.proofs.lemmas.Simd.{get_or-zip2, leading_from_mask_l, trailing_mask_l}
use lib.Lanes.{zip2, mask_l, top}
use lib.Count.{count_trailing_zeros}
use Rattle.md_script.specs.Line.{is_space}
use Rattle.md_script.specs.CommonName.{IsFirstSpace}

itself : (marks : List Bool) → map (λ m. m) marks ≡ marks
itself [] = refl
itself (m ∷ marks) = ap (λ r. m ∷ r) (itself marks)

lowest : (marks : List Bool) → length marks ≤ 64 → 0 < mask_l marks →
    count_trailing_zeros 64 (mask_l marks) ≡ prefix_len (λ m. not m) marks
lowest marks few some =
    rw (itself marks) at (trailing_mask_l (λ m. m) 64 marks few (rw (itself marks) some))

clear_before : (marks : List Bool) (k : ℕ) → k < length marks → length marks ≤ 64 →
    k < count_trailing_zeros 64 (mask_l marks) → get_or marks k false ≡ false
clear_before marks k inside few low =
    let counted : k < prefix_len (λ m. not m) marks =
    elim (cases_eq (mask_l marks) 0) [
      | inl none ↦
          omega (
            arith,
            leading_from_mask_l (λ m. m) marks (ap mask_l (itself marks) ∙ none),
            inside,
          )
      | inr some ↦ omega (arith, lowest marks few (omega (arith, some)), low)
    ] in
    not-true _ (prefix_len_passes (λ m. not m) marks k false counted)

abbrev differs : ℕ → ℕ → Bool
differs a b = not (eqb a b)

pub same_before : (xs ys : List ℕ) (k : ℕ) → 16 ≤ length xs → length ys ≡ 16 →
    k < count_trailing_zeros 64
    (mask_l (map (top 7) (zip2 (λ a b. cond (differs a b) 255 0) (take 16 xs) (take 16 ys)))
    % 2 ^ 64) → k < 16 → get_or xs k 0 ≡ get_or ys k 0
same_before xs ys k long exact low few =
    let front = take 16 xs in
    let text = take 16 ys in
    let size = length-take-le 16 xs long in
    let other = length-take-le 16 ys (omega (arith, exact)) in
    let marks = zip2 differs front text in
    let many : length marks ≡ 16 = length-zip2 differs front text (size ∙ sym other) ∙ size in
    let is = ap (λ ms. mask_l ms % 2 ^ 64) (tops_compared w8 differs front text)
    ∙ mask_l-mod marks 64 (omega (arith, many)) in
    let clear = clear_before marks k (omega (arith, many, few)) (omega (arith, many))
    (subst (λ m. k < count_trailing_zeros 64 m) is low) in
    let at = get_or-zip2 differs front text k 0 0 false (omega (arith, size, few))
    (omega (arith, other, few)) in
    sym (get_or-take 16 xs k 0 few)
    ∙ eqb-true (get_or front k 0) (get_or text k 0) (not-false _ (sym at ∙ clear))
    ∙ get_or-take 16 ys k 0 few

pub take_same : (xs ys : List ℕ) (n : ℕ) → n ≤ length xs → n ≤ length ys →
    ((k : ℕ) → k < n → get_or xs k 0 ≡ get_or ys k 0) → take n xs ≡ take n ys
take_same xs ys zero some other same = refl
take_same [] ys (suc n) some other same = absurd (omega (arith, some))
take_same (x ∷ xs) [] (suc n) some other same = absurd (omega (arith, other))
take_same (x ∷ xs) (y ∷ ys) (suc n) some other same =
    ap (λ c. c ∷ take n xs) (same 0 (omega arith))
    ∙ ap (λ l. y ∷ l) (take_same xs ys n (omega (arith, some))
    (omega (arith, other)) (λ k low. same (suc k) (omega (arith, low))))

set_at : (marks : List Bool) → length marks ≤ 64 →
    count_trailing_zeros 64 (mask_l marks) < length marks →
    get_or marks (count_trailing_zeros 64 (mask_l marks)) false ≡ true
unfolding count_trailing_zeros
set_at marks few low =
    elim (cases_eq (mask_l marks) 0) [
      | inl none ↦ grind arith
      | inr some ↦ grind (arith, lowest, prefix_len_stops)
    ]

abbrev spaces : List ℕ → List Bool
spaces front = map is_space front

abbrev space_mask : List ℕ → ℕ
space_mask front =
    mask_l (map (top 7) (zip2 (λ a b. cond (eqb a b) 255 0) front (replicate 16 32))) % 2 ^ 64

pub space_found : (bytes : List ℕ) → 16 ≤ length bytes →
    count_trailing_zeros 64 (space_mask (take 16 bytes)) < 16 →
    IsFirstSpace bytes (count_trailing_zeros 64 (space_mask (take 16 bytes)))
space_found bytes long low =
    let front = take 16 bytes in
    let size = length-take-le 16 bytes long in
    let marks = spaces front in
    let many : length marks ≡ 16 = length-map front is_space ∙ size in
    let is : space_mask front ≡ mask_l marks =
    bitmask_splat w8 eqb front 16 32 size (omega arith) in
    let at : (k : ℕ) → k < 16 → get_or marks k false ≡ is_space (get_or bytes k 0) =
    λ k few.
    get_or-map is_space front k 0 false (omega (arith, size, few))
    ∙ ap is_space (get_or-take 16 bytes k 0 few) in
    let place :
    count_trailing_zeros 64 (space_mask front) ≡ count_trailing_zeros 64 (mask_l marks) =
    ap (count_trailing_zeros 64) is in
    record {
      none = grind (arith, clear_before);
      there = grind (arith, eqb-true, set_at);
    }
