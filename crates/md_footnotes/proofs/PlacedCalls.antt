-- What is kept of calls at the places of their identifiers is what the calls tally to.
use Rattle.std.proofs.Common.{◌≡◌, ◌<◌, ◌≤◌, ℕ, zero, suc, Bool, true, false, List, [], ◌∷◌, ◌++◌}
use Rattle.std.proofs.Common.{length, map, drop, Some, None, refl, ap, sym, subst, ◌∙◌}
use Rattle.std.proofs.Common.{arith, String, Global, string_bytes, unwrap_or}
use Rattle.std.specs.Prelude.{slice_get, slice_index_or}
use Rattle.std.specs.Option.{option_map_or}
use Rattle.std.proofs.lemmas.Option.{none-some}
use Rattle.std.proofs.lemmas.Bool.{true≢false}
use Rattle.std.proofs.lemmas.List.{map-append, length-append}
use Rattle.md_meaning.specs.Meaning.Footnotes.{count_of}
use Rattle.md_footnotes.specs.Entries.{Counted, tally, counts_in, identifier_in, calls_in, AreBelow}
use Rattle.md_footnotes.specs.Entries.{again, place_in, count_in}
use Rattle.md_footnotes.proofs.Tally.{counted, counted-tally}
use Rattle.md_footnotes.proofs.Numbers.{count_among, count-same}
use Rattle.md_meaning.proofs.Identifiers.{same}
use Rattle.md_footnotes.proofs.Placing.{placed_by, place-below, counted-again, counted-new}
use Rattle.md_footnotes.proofs.Placing.{count-at}

-- the identifier at its place
identifier-at : (entries : List (String Global × ℕ)) (q : List ℕ) (i : ℕ) →
    place_in entries q ≡ Some i →
    identifier_in entries i ≡ q
identifier-at entries q = placed_by q (λ es i. identifier_in es i ≡ q)
    (λ e es is. same (string_bytes e.0) q is) (λ e es i differ held. held) entries

-- one more at a place changes no identifier, and how many there are
identifiers-again : (entries : List (String Global × ℕ)) (i place : ℕ) →
    identifier_in (again entries i) place ≡ identifier_in entries place
identifiers-again [] i place = refl
identifiers-again (e ∷ entries) zero zero = refl
identifiers-again (e ∷ entries) zero (suc place) = refl
identifiers-again (e ∷ entries) (suc i) zero = refl
identifiers-again (e ∷ entries) (suc i) (suc place) = identifiers-again entries i place

length-again : (entries : List (String Global × ℕ)) (i : ℕ) →
    length (again entries i) ≡ length entries
length-again [] i = refl
length-again (e ∷ entries) zero = refl
length-again (e ∷ entries) (suc i) = ap (λ n. suc n) (length-again entries i)

calls-again : (entries : List (String Global × ℕ)) (i : ℕ) (order : List ℕ) →
    calls_in (again entries i) order ≡ calls_in entries order
calls-again entries i [] = refl
calls-again entries i (place ∷ order) =
    ap (λ x. x ∷ calls_in (again entries i) order) (identifiers-again entries i place)
    ∙ ap (λ xs. identifier_in entries place ∷ xs) (calls-again entries i order)

-- an entry more at the end is there, and changes no identifier before it
identifier-last : (entries : List (String Global × ℕ)) (e : String Global × ℕ) →
    identifier_in (entries ++ e ∷ []) (length entries) ≡ string_bytes e.0
identifier-last [] e = refl
identifier-last (f ∷ entries) e = identifier-last entries e

identifier-before : (entries : List (String Global × ℕ)) (e : String Global × ℕ) (place : ℕ) →
    place < length entries → identifier_in (entries ++ e ∷ []) place ≡ identifier_in entries place
identifier-before [] e place below = absurd (omega (arith, below))
identifier-before (f ∷ entries) e zero below = refl
identifier-before (f ∷ entries) e (suc place) below =
    identifier-before entries e place (omega (arith, below))

calls-before : (entries : List (String Global × ℕ)) (e : String Global × ℕ) (order : List ℕ) →
    AreBelow (length entries) order → calls_in (entries ++ e ∷ []) order ≡ calls_in entries order
calls-before entries e [] below = refl
calls-before entries e (place ∷ order) below =
    ap (λ x. x ∷ calls_in (entries ++ e ∷ []) order) (identifier-before entries e place below.0)
    ∙ ap (λ xs. identifier_in entries place ∷ xs) (calls-before entries e order below.1)

-- places below a bound, with one more at the end
below-push : (bound more : ℕ) (order : List ℕ) (place : ℕ) → bound ≤ more → place < more →
    AreBelow bound order →
    AreBelow more (order ++ place ∷ [])
below-push bound more [] place higher last below = (last, tt)
below-push bound more (first ∷ order) place higher last below =
    (omega (arith, below.0, higher), below-push bound more order place higher last below.1)

-- what is kept is what the calls tally to
abbrev pub Keeps : List (String Global × ℕ) → List ℕ → List (List ℕ) → Type 0
Keeps entries order calls =
    (calls_in entries order ≡ calls) × (counts_in entries ≡ tally calls)
    × AreBelow (length entries) order

-- the same after one more call of an existing identifier, and of a new one
call-again : (entries : List (String Global × ℕ)) (order : List ℕ) (calls : List (List ℕ))
    (q : List ℕ) (i : ℕ) →
    place_in entries q ≡ Some i → Keeps entries order calls →
    Keeps (again entries i) (order ++ i ∷ []) (calls ++ q ∷ [])
call-again entries order calls q i h keeps = (
  map-append (λ place. identifier_in (again entries i) place) order (i ∷ [])
      ∙ ap (λ xs. xs ++ identifier_in (again entries i) i ∷ [])
      (calls-again entries i order ∙ keeps.0)
      ∙ ap (λ x. calls ++ x ∷ []) (identifiers-again entries i i ∙ identifier-at entries q i h),
  counted-again entries q i h ∙ ap (λ cs. counted cs q) keeps.1 ∙ counted-tally calls q,
  subst (λ n. AreBelow n (order ++ i ∷ [])) (sym (length-again entries i))
      (below-push (length entries) (length entries) order i (omega arith)
      (place-below entries q i h) keeps.2),
)

call-new : (entries : List (String Global × ℕ)) (order : List ℕ) (calls : List (List ℕ))
    (key : String Global) →
    place_in entries (string_bytes key) ≡ None → Keeps entries order calls →
    Keeps (entries ++ (key, 1) ∷ []) (order ++ length entries ∷ []) (calls ++ string_bytes key ∷ [])
call-new entries order calls key h keeps =
    grind (
      arith,
      map-append,
      calls-before,
      identifier-last,
      counted-new,
      counted-tally,
      below-push,
      length-append,
    )

-- what equals what is kept is kept
kept : (entries others : List (String Global × ℕ)) (order places : List ℕ) (calls : List (List ℕ)) →
    others ≡ entries → places ≡ order → Keeps entries order calls → Keeps others places calls
kept entries others order places calls e o keeps = grind arith

pub kept-again :
    (entries others : List (String Global × ℕ)) (order places : List ℕ) (q : List ℕ) (i : ℕ) →
    others ≡ again entries i → places ≡ order ++ i ∷ [] → place_in entries q ≡ Some i →
    counts_in entries ≡ tally (calls_in entries order) → AreBelow (length entries) order →
    Keeps others places (calls_in entries order ++ q ∷ [])
kept-again entries others order places q i e o h same below =
    kept (again entries i) others (order ++ i ∷ []) places (calls_in entries order ++ q ∷ []) e o
    (call-again entries order (calls_in entries order) q i h (refl, same, below))

pub kept-new :
    (entries others : List (String Global × ℕ)) (order places : List ℕ) (key : String Global) →
    others ≡ entries ++ (key, 1) ∷ [] → places ≡ order ++ length entries ∷ [] →
    place_in entries (string_bytes key) ≡ None →
    counts_in entries ≡ tally (calls_in entries order) →
    AreBelow (length entries) order →
    Keeps others places (calls_in entries order ++ string_bytes key ∷ [])
kept-new entries others order places key e o h same below =
    kept (entries ++ (key, 1) ∷ []) others (order ++ length entries ∷ []) places
    (calls_in entries order ++ string_bytes key ∷ []) e o
    (call-new entries order (calls_in entries order) key h (refl, same, below))

-- how often the identifier at its place is called
pub count-kept : (entries : List (String Global × ℕ)) (calls : List (List ℕ)) (q : List ℕ) (i : ℕ) →
    place_in entries q ≡ Some i → counts_in entries ≡ tally calls →
    count_in entries i ≡ count_of calls q
count-kept entries calls q i h same =
    ap (λ o. option_map_or (λ place. count_in entries place) o 0) (sym h)
    ∙ count-at entries q ∙ ap (λ cs. count_among cs q) same ∙ count-same calls q

-- the entry at an index
pub entry-called :
    (entries : List (String Global × ℕ)) (f : List ℕ → ℕ) (names : List (List ℕ)) (i : ℕ)
    (e : String Global × ℕ) →
    counts_in entries ≡ map (λ x. record { identifier = x; count = f x }) names →
    slice_get entries i ≡ Some e →
    (slice_get names i ≡ Some (string_bytes e.0)) × (e.1 ≡ f (string_bytes e.0))
    × (i < length names)
entry-called [] f names i e same h = absurd (none-some e h)
entry-called (d ∷ entries) f [] i e same h = absurd (true≢false (sym (ap is_nil same)))
  where
    is_nil : List Counted → Bool
    is_nil [] = true
    is_nil (x ∷ xs) = false
entry-called (d ∷ entries) f (x ∷ names) zero e same h =
    let here : d ≡ e = ap (λ o. unwrap_or o d) h in
    let head : Counted = record { identifier = string_bytes d.0; count = d.1 } in
    let named : string_bytes d.0 ≡ x =
    ap (λ (l : List Counted). (slice_index_or l 0 head).identifier) same in
    let counted : d.1 ≡ f x = ap (λ (l : List Counted). (slice_index_or l 0 head).count) same in (
      ap (λ y. Some y) (sym named ∙ ap (λ (p : String Global × ℕ). string_bytes p.0) here),
      sym (ap (λ (p : String Global × ℕ). p.1) here) ∙ counted
          ∙ ap f (sym named ∙ ap (λ (p : String Global × ℕ). string_bytes p.0) here),
      omega arith,
    )
entry-called (d ∷ entries) f (x ∷ names) (suc i) e same h =
    let later = entry-called entries f names i e (ap (λ (l : List Counted). drop 1 l) same) h in
    (later.0, later.1, omega (arith, later.2))
