-- Numbers and counts of calls: what is found in the tally of those so far is what the meaning
-- finds in their list.
use Rattle.std.proofs.Common.{◌≡◌, ◌≤◌, ℕ, zero, suc, false, List, [], ◌∷◌, ◌++◌, map, refl, ap}
use Rattle.std.proofs.Common.{sym, ◌∙◌, arith, bytes_eq, length, Some, inl, inr}
use Rattle.std.specs.Prelude.{if◌then◌else◌, find, slice_get}
use Rattle.std.specs.Option.{option_map_or}
use Rattle.std.proofs.lemmas.Bool.{cases_Bool, or_parts}
use Rattle.std.proofs.lemmas.Option.{none-some}
use Rattle.md_meaning.specs.Meaning.Footnotes.{distinct, count_of, place_among}
use Rattle.md_footnotes.specs.Entries.{Counted, tally}
use Rattle.md_meaning.proofs.Identifiers.{is_in, others_than, Apart, same, itself, bytes_eq-sym}
use Rattle.md_meaning.proofs.Identifiers.{is_in-distinct, distinct-apart, count-missing}

-- the position of an identifier among some, from 1; after all of them if it isn't among them
abbrev pub number_among : List Counted → List ℕ → ℕ
number_among [] identifier = 1
number_among (first ∷ others) identifier = if bytes_eq first.identifier identifier then 1
    else suc (number_among others identifier)

-- how often an identifier is called
abbrev pub count_among : List Counted → List ℕ → ℕ
count_among others identifier = option_map_or (λ called. called.count)
    (find (λ called. bytes_eq called.identifier identifier) others) 0

-- the place in a tally is that among its identifiers
number-placed : (f : List ℕ → ℕ) (xs : List (List ℕ)) (x : List ℕ) →
    number_among (map (λ i. record { identifier = i; count = f i }) xs) x ≡ place_among xs x
number-placed f [] x = refl
number-placed f (y ∷ ys) x = ap (λ n. if bytes_eq y x then 1 else suc n) (number-placed f ys x)

-- the identifiers before the first that is this one
upto : List ℕ → List (List ℕ) → List (List ℕ)
upto x [] = []
upto x (y ∷ ys) = if bytes_eq y x then [] else y ∷ upto x ys

placed-upto : (xs : List (List ℕ)) (x : List ℕ) → place_among xs x ≡ suc (length (upto x xs))
unfolding upto
placed-upto [] x = refl
placed-upto (y ∷ ys) x = let later = placed-upto ys x in grind (arith, later)

upto-others : (y x : List ℕ) (zs : List (List ℕ)) → bytes_eq y x ≡ false →
    upto x (others_than y zs) ≡ others_than y (upto x zs)
unfolding upto
upto-others y x [] h = refl
upto-others y x (z ∷ zs) h = elim (cases_Bool (bytes_eq z y)) [
  | inl e ↦ rw (ap (λ w. bytes_eq w x) (same z y e) ∙ h) (rw e (upto-others y x zs h))
  | inr e ↦ elim (cases_Bool (bytes_eq z x)) [
    | inl t ↦ rw e (rw t refl)
    | inr t ↦ rw e (rw t (rw e (ap (λ ws. z ∷ ws) (upto-others y x zs h))))
  ]
]

-- before its first call after others, an identifier has the same ones before it
upto-distinct : (xs : List (List ℕ)) (x : List ℕ) →
    upto x (distinct (xs ++ x ∷ [])) ≡ upto x (distinct xs)
unfolding upto
upto-distinct [] x = ap (λ b. if b then [] else x ∷ []) (itself x)
upto-distinct (y ∷ xs) x = let later = upto-distinct xs x in grind (arith, upto-others, later)

pub number-same : (xs : List (List ℕ)) (x : List ℕ) →
    number_among (tally xs) x ≡ place_among (distinct (xs ++ x ∷ [])) x
number-same xs x =
    number-placed (count_of xs) (distinct xs) x
    ∙ placed-upto (distinct xs) x
    ∙ ap (λ ws. suc (length ws)) (sym (upto-distinct xs x))
    ∙ sym (placed-upto (distinct (xs ++ x ∷ [])) x)

count-found : (f : List ℕ → ℕ) (xs : List (List ℕ)) (x : List ℕ) →
    count_among (map (λ i. record { identifier = i; count = f i }) xs) x
    ≡ (if is_in x xs then f x else 0)
count-found f [] x = refl
count-found f (y ∷ ys) x = let later = count-found f ys x in grind (arith, same, later)

-- how often an identifier was called
pub count-same : (xs : List (List ℕ)) (x : List ℕ) → count_among (tally xs) x ≡ count_of xs x
count-same xs x =
    count-found (count_of xs) (distinct xs) x
    ∙ ap (λ b. if b then count_of xs x else 0) (is_in-distinct xs x)
    ∙ (elim (cases_Bool (is_in x xs)) [
      | inl e ↦ rw e refl
      | inr e ↦ rw e (sym (count-missing xs x e))
    ])

-- no identifier is called more often than calls there are
pub count-below : (xs : List (List ℕ)) (x : List ℕ) → count_of xs x ≤ length xs
count-below [] x = omega arith
count-below (y ∷ ys) x = let below = count-below ys x in grind (arith, below)

-- the position of the entry at an index, if no two are equal
not_there : (y x : List ℕ) (ys : List (List ℕ)) (i : ℕ) → is_in y ys ≡ false →
    slice_get ys i ≡ Some x →
    bytes_eq x y ≡ false
not_there y x [] i h e = absurd (none-some x e)
not_there y x (z ∷ zs) zero h e = grind arith
not_there y x (z ∷ zs) (suc i) h e = not_there y x zs i (or_parts (bytes_eq z y) (is_in y zs) h).1 e

place-of : (xs : List (List ℕ)) (i : ℕ) (x : List ℕ) → Apart xs → slice_get xs i ≡ Some x →
    place_among xs x ≡ suc i
place-of [] i x apart e = absurd (none-some x e)
place-of (y ∷ ys) zero x apart e = grind (arith, itself)
place-of (y ∷ ys) (suc i) x apart e =
    ap (λ b. if b then 1 else suc (place_among ys x))
    (bytes_eq-sym y x ∙ not_there y x ys i apart.0 e) ∙ ap suc (place-of ys i x apart.1 e)

-- the distinct identifiers are numbered from 1 in their order
pub number-at-index : (calls : List (List ℕ)) (i : ℕ) (x : List ℕ) →
    slice_get (distinct calls) i ≡ Some x →
    place_among (distinct calls) x ≡ suc i
number-at-index calls i x e = place-of (distinct calls) i x (distinct-apart calls) e
