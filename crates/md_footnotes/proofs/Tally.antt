-- Counting calls in sequence is the same as tallying them.
use Rattle.std.proofs.Common.{◌≡◌, ℕ, ◌+◌, suc, true, false, List, [], ◌∷◌, ◌++◌}
use Rattle.std.proofs.Common.{map, refl, ap, sym, ◌∙◌, append-nil, arith, bytes_eq}
use Rattle.std.specs.Prelude.{if◌then◌else◌}
use Rattle.std.proofs.lemmas.Bool.{or_parts}
use Rattle.std.proofs.lemmas.List.Elements.{filter-append}
use Rattle.md_meaning.specs.Meaning.Footnotes.{distinct, count_of}
use Rattle.md_footnotes.specs.Entries.{Counted, tally}
use Rattle.md_meaning.proofs.Identifiers.{is_in, Apart, same, itself, bytes_eq-sym}
use Rattle.md_meaning.proofs.Identifiers.{is_in-distinct, distinct-apart, count-missing}

-- a call more: its identifier's count grows, or it comes last
abbrev pub counted : List Counted → List ℕ → List Counted
counted [] identifier = record { identifier = identifier; count = 1 } ∷ []
counted (first ∷ others) identifier =
    if bytes_eq first.identifier identifier then record first { count = suc first.count } ∷ others
    else first ∷ counted others identifier

-- each of some identifiers with its count
abbrev named : (List ℕ → ℕ) → List (List ℕ) → List Counted
named f others = map (λ identifier. record { identifier = identifier; count = f identifier }) others

-- one call more
abbrev plus_one : (List ℕ → ℕ) → List ℕ → List ℕ → ℕ
plus_one f identifier other = f other + (if bytes_eq identifier other then 1 else 0)

named-ext : (f g : List ℕ → ℕ) (xs : List (List ℕ)) → ((x : List ℕ) → f x ≡ g x) →
    named f xs ≡ named g xs
named-ext f g [] h = refl
named-ext f g (x ∷ xs) h = let later = named-ext f g xs h in grind (arith, later)

named-append : (f : List ℕ → ℕ) (xs ys : List (List ℕ)) →
    named f (xs ++ ys) ≡ named f xs ++ named f ys
named-append f [] ys = refl
named-append f (x ∷ xs) ys = let later = named-append f xs ys in grind (arith, later)

count-push : (calls : List (List ℕ)) (identifier other : List ℕ) →
    count_of (calls ++ identifier ∷ []) other ≡ plus_one (count_of calls) identifier other
count-push [] identifier other = omega arith
count-push (call ∷ calls) identifier other =
    let h = count-push calls identifier other in
    omega (arith, h)

-- an identifier that isn't among some changes no count
named-missing : (f : List ℕ → ℕ) (xs : List (List ℕ)) (x : List ℕ) → is_in x xs ≡ false →
    named (plus_one f x) xs ≡ named f xs
named-missing f [] x h = refl
named-missing f (y ∷ ys) x h =
    let later = named-missing f ys x in
    grind (arith, bytes_eq-sym, or_parts, later)

-- one call more among identifiers that come once each
counted-named : (f : List ℕ → ℕ) (xs : List (List ℕ)) (x : List ℕ) → Apart xs →
    counted (named f xs) x ≡ (if is_in x xs then named (plus_one f x) xs else named f xs
    ++ record { identifier = x; count = 1 } ∷ [])
counted-named f [] x h = refl
counted-named f (y ∷ ys) x h =
    let later = counted-named f ys x h.1 in
    grind (arith, bytes_eq-sym, named-missing, same, later)

distinct-push : (xs : List (List ℕ)) (z : List ℕ) → distinct (xs ++ z ∷ [])
    ≡ (if is_in z xs then distinct xs else distinct xs ++ z ∷ [])
distinct-push [] z = refl
distinct-push (x ∷ xs) z =
    let later = distinct-push xs z in
    grind (arith, filter-append, bytes_eq-sym, append-nil, later)

-- to count one call more is to tally one call more
pub counted-tally : (calls : List (List ℕ)) (z : List ℕ) →
    counted (tally calls) z ≡ tally (calls ++ z ∷ [])
counted-tally calls z =
    let f = count_of calls in
    let g = count_of (calls ++ z ∷ []) in
    counted-named f (distinct calls) z (distinct-apart calls)
    ∙ elim (is_in z calls) as (λ b. is_in z calls ≡ b → (if is_in z (distinct calls)
    then named (plus_one f z) (distinct calls)
    else named f (distinct calls) ++ record { identifier = z; count = 1 }
    ∷ []) ≡ named g (if b then distinct calls else distinct calls ++ z ∷ [])) [
      | true ↦ λ e.
          ap (λ b. if b then named (plus_one f z) (distinct calls) else named f (distinct calls)
          ++ record { identifier = z; count = 1 } ∷ []) (is_in-distinct calls z ∙ e)
          ∙ named-ext (plus_one f z) g (distinct calls) (λ x. sym (count-push calls z x))
      | false ↦ λ e.
          ap (λ b. if b then named (plus_one f z) (distinct calls) else named f (distinct calls)
          ++ record { identifier = z; count = 1 } ∷ []) (is_in-distinct calls z ∙ e)
          ∙ ap (λ cs. cs ++ record { identifier = z; count = 1 }
          ∷ []) (sym (named-missing f (distinct calls) z (is_in-distinct calls z ∙ e))
          ∙ named-ext (plus_one f z) g (distinct calls) (λ x. sym (count-push calls z x)))
          ∙ ap (λ n. named g (distinct calls) ++ record { identifier = z; count = n }
          ∷ []) (sym (count-push calls z z ∙ ap (λ n. n + (if bytes_eq z z then 1 else 0))
          (count-missing calls z e) ∙ ap (λ b. 0 + (if b then 1 else 0)) (itself z)))
          ∙ sym (named-append g (distinct calls) (z ∷ []))
    ] refl
    ∙ ap (λ ds. named g ds) (sym (distinct-push calls z))
