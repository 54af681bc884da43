-- A call's number is its place among the calls so far: later ones don't change it.
use Rattle.std.proofs.Common.{arith, ◌≡◌, ℕ, Bool, true, false, not, ◌||◌, List, [], ◌∷◌, ◌++◌}
use Rattle.std.proofs.Common.{refl, ap, ◌∙◌, bytes_eq, filter}
use Rattle.std.specs.List.{list_any}
use Rattle.std.proofs.lemmas.Slice.Eq.{bytes_eq-Decides}
use Rattle.std.proofs.lemmas.Bool.{or_right}
use Rattle.std.proofs.lemmas.List.Elements.{filter-append}
use Rattle.md_base.proofs.Lies.{lie}
use Rattle.md_meaning.specs.Meaning.Footnotes.{distinct, place_among}

abbrev Identifier : Type 0
Identifier = List ℕ

abbrev is_other : Identifier → Identifier → Bool
is_other first other = not (bytes_eq other first)

-- an identifier is among others
abbrev among : List Identifier → Identifier → Bool
among xs x = list_any (λ y. bytes_eq y x) xs

-- the distinct ones of more begin with those of fewer
distinct-append : (xs ys : List Identifier) →
    (more : List Identifier) × (distinct (xs ++ ys) ≡ distinct xs ++ more)
distinct-append [] ys = (distinct ys, refl)
distinct-append (x ∷ xs) ys =
    let rest = distinct-append xs ys in (
      filter (is_other x) rest.0,
      ap (λ l. x ∷ filter (is_other x) l) rest.1
          ∙ ap (λ l. x ∷ l) (filter-append (is_other x) (distinct xs) rest.0),
    )

place-append : (xs more : List Identifier) (x : Identifier) → among xs x ≡ true →
    place_among (xs ++ more) x ≡ place_among xs x
place-append [] more x h = lie h
place-append (y ∷ xs) more x h = grind (arith, place-append xs more x)

same-self : (x : Identifier) → bytes_eq x x ≡ true
same-self x = (bytes_eq-Decides x x).1 refl

filter-keeps : (p : Identifier → Bool) (xs : List Identifier) (x : Identifier) →
    among xs x ≡ true → p x ≡ true →
    among (filter p xs) x ≡ true
filter-keeps p [] x h k = lie h
filter-keeps p (y ∷ xs) x h k = grind (arith, bytes_eq-Decides, filter-keeps p xs)

-- what is among some is among the distinct ones
distinct-has : (xs : List Identifier) (x : Identifier) → among xs x ≡ true →
    among (distinct xs) x ≡ true
distinct-has [] x h = lie h
distinct-has (y ∷ xs) x h =
    grind (arith, filter-keeps, bytes_eq-Decides, same-self, distinct-has xs)

last-among : (xs : List Identifier) (x : Identifier) → among (xs ++ x ∷ []) x ≡ true
last-among [] x = ap (λ b. b || false) (same-self x)
last-among (y ∷ xs) x = or_right _ _ (last-among xs x)

pub place-so-far : (calls : List Identifier) (x : Identifier) (later : List Identifier) →
    place_among (distinct ((calls ++ x ∷ []) ++ later)) x
    ≡ place_among (distinct (calls ++ x ∷ [])) x
place-so-far calls x later =
    let whole = distinct-append (calls ++ x ∷ []) later in
    ap (λ l. place_among l x) whole.1
    ∙ place-append (distinct (calls ++ x ∷ [])) whole.0 x
    (distinct-has (calls ++ x ∷ []) x (last-among calls x))
