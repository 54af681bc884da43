-- The table of places: what its letters encode, row by row and symbol by symbol.
use Rattle.std.proofs.Common.{◌≡◌, ℕ, zero, suc, ◌+◌, ◌<◌, ◌≤◌, Bool, true, false}
use Rattle.std.proofs.Common.{Option, None, List, [], ◌∷◌, map, length, get_or, take}
use Rattle.std.proofs.Common.{eqb, ltb, refl, sym, ap, ◌∙◌, subst, arith}
use Rattle.std.specs.List.{list_all}
use Rattle.std.proofs.lemmas.List.{length-map, get_or-map, get_or-take}
use Rattle.std.proofs.lemmas.Bool.{and_parts, eqb-true, eqb-false, ltb-true, ltb-false}
use denote.Enum.Declared.{tag_of}
use Rattle.md_pattern.specs.contracts.kinds.Symbol as symbol_contract
use Rattle.md_pattern.specs.contracts.kinds.Role as role_contract
use Rattle.md_pattern.specs.declared.kinds.Symbol.{Symbol}
use Rattle.md_pattern.specs.declared.kinds.Symbol.TheVariants as symbol
use Rattle.md_pattern.specs.declared.kinds.Role.{Role}
use Rattle.md_pattern.specs.declared.kinds.Role.TheVariants as role
use Rattle.md_pattern.specs.declared.state.Stage.TheVariants.{Whole}
use Rattle.md_pattern.specs.Places.{At, at, places, symbols, all_roles, place_at, decoded}
use Rattle.md_pattern.specs.Places.{decoded_from, moves, moved_from, encodes_row, encodes_rows_from}
use Rattle.md_pattern.specs.Places.{state_at, AreRows, AreEnds, AreStarts}
use Rattle.md_pattern.specs.Steps.{is_complete, may_hold, start_of}

pub symbol-numbered : (seen : Symbol) →
    get_or symbols (tag_of symbol_contract.the_type seen) symbol.Text ≡ seen
unfolding symbols
symbol-numbered seen = grind arith

pub role-numbered : (seen : Role) →
    get_or all_roles (tag_of role_contract.the_type seen) role.Childless ≡ seen
unfolding all_roles
role-numbered seen = grind arith

-- ---- the places that rows encode

length-decoded : (n : ℕ) (rows : List (List ℕ)) → length (decoded_from n rows) ≡ length rows
unfolding decoded_from
length-decoded n [] = refl
length-decoded n (row ∷ rows) = ap suc (length-decoded (n + 1) rows)

decoded-row : (n i k : ℕ) (rows : List (List ℕ)) → n + i ≡ k → i < length rows →
    get_or (decoded_from n rows) i [] ≡ map (λ letter. decoded k letter) (get_or rows i [])
unfolding decoded_from
decoded-row n i k [] e inside = absurd (omega (arith, inside))
decoded-row n zero k (row ∷ rows) e inside = grind arith
decoded-row n (suc i) k (row ∷ rows) e inside =
    decoded-row (n + 1) i k rows (omega (arith, e)) (omega (arith, inside))

encodes-row : (n i k : ℕ) (rows : List (List ℕ)) → n + i ≡ k → i < length rows →
    encodes_rows_from n rows ≡ true →
    list_all (λ letter. encodes_row k letter) (get_or rows i []) ≡ true
unfolding encodes_rows_from
encodes-row n i k [] e inside all = absurd (omega (arith, inside))
encodes-row n zero k (row ∷ rows) e inside all = grind arith
encodes-row n (suc i) k (row ∷ rows) e inside all =
    let later = encodes-row (n + 1) i k rows in grind (arith, later, e, inside, all)

letter-encodes_row : (k i : ℕ) (row : List ℕ) → i < length row →
    list_all (λ letter. encodes_row k letter) row ≡ true →
    encodes_row k (get_or row i 0) ≡ true
letter-encodes_row k i [] inside all = grind (arith, and_parts)
letter-encodes_row k zero (letter ∷ row) inside all = grind (arith, and_parts)
letter-encodes_row k (suc i) (letter ∷ row) inside all =
    grind (arith, and_parts, letter-encodes_row k i row (omega (arith, inside)))

counted : length places ≡ 114
unfolding places
counted = refl

symbols-counted : length symbols ≡ 47
unfolding symbols
symbols-counted = refl

pub rows-count : (rows : List (List ℕ)) → AreRows rows → length rows ≡ 114
rows-count rows are = grind (arith, are.decodes, length-decoded, length-map, counted)

row-decoded : (rows : List (List ℕ)) (i : ℕ) → AreRows rows → i < length rows →
    map (λ letter. decoded i letter) (get_or rows i []) ≡ moves (place_at i)
row-decoded rows i are inside =
    rw (← decoded-row 0 i i rows (omega arith) inside, are.decodes)
    (get_or-map (λ place. moves place) places i _ []
    (omega (arith, inside, counted, rows-count rows are)))

row-long : (rows : List (List ℕ)) (i : ℕ) → AreRows rows → i < length rows →
    length (get_or rows i []) ≡ 47
row-long rows i are inside =
    grind (arith, length-map, row-decoded rows i are inside, symbols-counted)

pub letter-decoded : (rows : List (List ℕ)) (i k : ℕ) (seen : Symbol) → AreRows rows →
    i < length rows → k < 47 →
    get_or symbols k symbol.Text ≡ seen →
    decoded i (get_or (get_or rows i []) k 0) ≡ moved_from (place_at i) seen
letter-decoded rows i k seen are inside few is =
    let here = get_or-map (λ letter. decoded i letter) (get_or rows i []) k 0 None
    (omega (arith, few, row-long rows i are inside)) in
    let there = get_or-map (λ seen. moved_from (place_at i) seen) symbols k symbol.Text None
    (omega (arith, few, symbols-counted)) in
    cc (here, there, row-decoded rows i are inside)

pub letter-led : (rows : List (List ℕ)) (i k : ℕ) → AreRows rows → i < length rows → k < 47 →
    encodes_row i (get_or (get_or rows i []) k 0) ≡ true
letter-led rows i k are inside few = grind (arith, letter-encodes_row, row-long, encodes-row)

get_or-outside : (xs : List At) (i : ℕ) (d : At) → length xs ≤ i → get_or xs i d ≡ d
get_or-outside [] i d past = refl
get_or-outside (x ∷ xs) zero d past = absurd (omega (arith, past))
get_or-outside (x ∷ xs) (suc i) d past = get_or-outside xs i d (omega (arith, past))

-- past the rows there is nothing
pub place-outside : (i : ℕ) → 114 ≤ i → place_at i ≡ at role.Childless 0 Whole
place-outside i past =
    get_or-outside places i (at role.Childless 0 Whole) (subst (λ n. n ≤ i) (sym counted) past)

-- past the rows nothing follows
pub moved-outside : (i : ℕ) (seen : Symbol) → 114 ≤ i → moved_from (place_at i) seen ≡ None
moved-outside i seen past = ap (λ place. moved_from place seen) (place-outside i past)

pub encodes_row-some : (i letter : ℕ) → (letter ≡ 46 → ⊥) → encodes_row i letter ≡ true →
    (letter ≤ 122) × (109 ≤ i + letter)
encodes_row-some i letter other all = grind arith

-- ---- where spines end, and where they begin

pub ends-count : (letters : List ℕ) → AreEnds letters → length letters ≡ 114
ends-count letters are = grind (arith, are, length-map, counted)

pub ends-at : (letters : List ℕ) (i letter : ℕ) (before : Option Symbol) → AreEnds letters →
    i < length letters →
    letter ≡ get_or letters i 0 → eqb letter 101 ≡ is_complete (state_at (place_at i) before)
ends-at letters i letter before are inside is =
    let here = get_or-map (λ l. eqb l 101) letters i 0 true inside in
    let there = get_or-map (λ place. is_complete (state_at place None)) places i
    (at role.Childless 0 Whole) true (omega (arith, inside, ends-count letters are, counted)) in
    cc (here, there, is, are)

pub ends-outside : (i : ℕ) (before : Option Symbol) → 114 ≤ i →
    true ≡ is_complete (state_at (place_at i) before)
ends-outside i before past = grind (arith, place-outside)

roles-counted : length all_roles ≡ 41
unfolding all_roles
roles-counted = refl

starts-count : (rows : List ℕ) → AreStarts rows → length rows ≡ 41
starts-count rows are = grind (arith, length-map, roles-counted)

pub start-at : (rows : List ℕ) (i : ℕ) (r : Role) → AreStarts rows → i < 41 →
    get_or all_roles i role.Childless ≡ r →
    state_at (place_at (get_or rows i 0)) None ≡ start_of r
start-at rows i r are few is =
    let here = get_or-map (λ row. place_at row) rows i 0 (at role.Childless 0 Whole)
    (omega (arith, few, starts-count rows are)) in
    let there =
    get_or-map (λ r. at r 0 Whole) all_roles i role.Childless (at role.Childless 0 Whole)
    (omega (arith, few, roles-counted)) in
    cc (here, there, is, are)

-- ---- nodes without children

-- each row but the last is that of a node that may have children
hold : list_all (λ place. may_hold place.role) (take 113 places) ≡ true
unfolding places
hold = refl

last-holds : may_hold (place_at 113).role ≡ false
unfolding places
last-holds = refl

test-at : (test : At → Bool) (xs : List At) (i : ℕ) (d : At) → i < length xs →
    list_all test xs ≡ true →
    test (get_or xs i d) ≡ true
test-at test [] i d inside all = absurd (omega (arith, inside))
test-at test (x ∷ xs) zero d inside all = (and_parts (test x) (list_all test xs) all).0
test-at test (x ∷ xs) (suc i) d inside all = let later = test-at test xs i d in grind (arith, later)

taken-counted : length (take 113 places) ≡ 113
unfolding places
taken-counted = refl

last-or : (i : ℕ) (b : Bool) → eqb i 113 ≡ b → 113 ≤ i → false ≡ may_hold (place_at i).role
last-or i b e past = grind (arith, eqb-true, last-holds, eqb-false, place-outside)

holds-by : (i : ℕ) (b : Bool) → ltb i 113 ≡ b → b ≡ may_hold (place_at i).role
holds-by i true e =
    let few : i < 113 = ltb-true i 113 e in
    sym (ap (λ place. may_hold (At.role place))
    (sym (get_or-take 113 places i (at role.Childless 0 Whole) few))
    ∙ test-at (λ place. may_hold place.role) (take 113 places) i (at role.Childless 0 Whole)
    (subst (λ n. i < n) (sym taken-counted) few) hold)
holds-by i false e = grind (arith, last-or, ltb-false)

pub place-holds : (i : ℕ) → ltb i 113 ≡ may_hold (place_at i).role
place-holds i = holds-by i (ltb i 113) refl
