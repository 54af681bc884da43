-- Each id among the calls of a document is that of one call, and each among its footnotes of one.
-- No two ids by number are equal: the heading's, those of footnotes and those of their calls.
use Rattle.std.proofs.lemmas.Fmt.{decimal_injective}
use Rattle.std.proofs.Common.{◌≡◌, ℕ, ◌+◌, ◌≤◌, ◌<◌, ◌^◌, suc, true, false, ◌||◌, List, [], ◌∷◌}
use Rattle.std.proofs.Common.{◌++◌, length, refl, sym, ap, ◌∙◌, arith, append_assoc, codes}
use Rattle.std.proofs.Common.{bytes_eq, ◌⊎◌, inl, inr}
use Rattle.std.specs.Prelude.{map}
use Rattle.std.proofs.lemmas.Bool.{or_parts, or_right, cond_both}
use Rattle.std.proofs.lemmas.List.{append_cancel_left, length-append}
use Rattle.md_text.specs.References.{read_back}
use Rattle.md_text.proofs.HtmlIds.{occurs}
use Rattle.md_text.specs.declared.options.CompileOptions.{CompileOptions}
use Rattle.md_meaning.specs.Meaning.Footnotes.{distinct, place_among, id_of, count_of}
use Rattle.md_meaning.proofs.Identifiers.{is_in, Apart, same, itself, distinct-apart}
use Rattle.md_safe.proofs.NumberedIds.{back_prefix, note_tail, note-back, id_after, ids_after}
use Rattle.md_safe.proofs.NumberedIds.{ids-differ, is_in-middle, same-place, number-bound}
use Rattle.md_safe.proofs.NumberedIds.{call_tail, call-back, EndsInDigit, label-no_digit, note-ends}
use Rattle.md_safe.proofs.NumberedIds.{call-ends}
use Rattle.md_safe.proofs.Cases.{cases}

-- another text before some
pub occurs-other : (w x : List ℕ) (xs : List (List ℕ)) → (x ≡ w → ⊥) →
    occurs w (x ∷ xs) ≡ occurs w xs
occurs-other w x xs differ = grind (arith, differ, same x w)

-- a text that none of the others is
occurs-once : (w x : List ℕ) (xs : List (List ℕ)) → occurs x xs ≡ 0 → occurs w xs ≤ 1 →
    occurs w (x ∷ xs) ≤ 1
occurs-once w x xs none few = cond_both (bytes_eq x w) (suc (occurs w xs)) (occurs w xs) (λ n. n ≤
    1) (λ e. omega (ap (λ w. occurs w xs) (same x w e), none, arith)) (λ _. few)

-- no later call has the id of an earlier one
none-later : (options : CompileOptions) → options.gfm_footnote_number_ids ≡ true →
    (all before mid : List (List ℕ)) (x : List ℕ) (calls : List (List ℕ)) → is_in x all ≡ true →
    length all + 1 < 2 ^ 64 → length (before ++ x ∷ mid) + length calls + 1 < 2 ^ 64 →
    occurs (id_after options all before x) (ids_after options all (before ++ x ∷ mid) calls) ≡ 0
none-later options on all before mid x [] among few small = refl
none-later options on all before mid x (y ∷ calls) among few small =
    let later = none-later options on all before (mid ++ y ∷ []) x calls among few in
    grind (arith, append_assoc, length-append, occurs-other, ids-differ, later)

-- each id is that of one call at most
pub calls-once : (options : CompileOptions) → options.gfm_footnote_number_ids ≡ true →
    (w : List ℕ) (all before calls : List (List ℕ)) → before ++ calls ≡ all →
    length all + 1 < 2 ^ 64 → length before + length calls + 1 < 2 ^ 64 →
    occurs w (ids_after options all before calls) ≤ 1
calls-once options on w all before [] whole few small = omega arith
calls-once options on w all before (x ∷ calls) whole few small =
    let later = calls-once options on w all (before ++ x ∷ []) calls in
    grind (arith, occurs-once, none-later, is_in-middle, length-append, append_assoc, later)

-- the ids of footnotes
abbrev pub note_id : CompileOptions → List (List ℕ) → List ℕ → List ℕ
note_id options all identifier =
    read_back (id_of options (codes "fn-") identifier (place_among (distinct all) identifier))

abbrev pub note_ids : CompileOptions → List (List ℕ) → List (List ℕ) → List (List ℕ)
note_ids options all identifiers = map (note_id options all) identifiers

-- each of some identifiers is among others
abbrev pub AreIn : List (List ℕ) → List (List ℕ) → Type 0
AreIn [] others = Unit {0}
AreIn (x ∷ xs) others = (is_in x others ≡ true) × AreIn xs others

notes-differ : (options : CompileOptions) → options.gfm_footnote_number_ids ≡ true →
    (all : List (List ℕ)) (x y : List ℕ) → length all + 1 < 2 ^ 64 → is_in y (distinct all) ≡ true →
    note_id options all y ≡ note_id options all x → y ≡ x
notes-differ options on all x y few among e =
    grind (arith, note-back, same-place, append_cancel_left, decimal_injective, number-bound)

none-other : (options : CompileOptions) → options.gfm_footnote_number_ids ≡ true →
    (all : List (List ℕ)) (x : List ℕ) (identifiers : List (List ℕ)) → length all + 1 < 2 ^ 64 →
    AreIn identifiers (distinct all) → is_in x identifiers ≡ false →
    occurs (note_id options all x) (note_ids options all identifiers) ≡ 0
none-other options on all x [] few among none = refl
none-other options on all x (y ∷ identifiers) few among none =
    let later = none-other options on all x identifiers few among.1 (or_parts _ _ none).1 in
    grind (arith, occurs-other, notes-differ, itself, or_parts, later)

-- each id is that of one footnote at most
pub notes-once : (options : CompileOptions) → options.gfm_footnote_number_ids ≡ true →
    (w : List ℕ) (all identifiers : List (List ℕ)) → length all + 1 < 2 ^ 64 → Apart identifiers →
    AreIn identifiers (distinct all) → occurs w (note_ids options all identifiers) ≤ 1
notes-once options on w all [] few apart among = omega arith
notes-once options on w all (x ∷ identifiers) few apart among =
    let later = notes-once options on w all identifiers few apart.1 among.1 in
    grind (arith, occurs-once, none-other, later)

in-more : (x : List ℕ) (xs others : List (List ℕ)) → AreIn xs others → AreIn xs (x ∷ others)
in-more x [] others h = tt
in-more x (y ∷ ys) others h = (or_right (bytes_eq x y) _ h.0, in-more x ys others h.1)

pub in-itself : (xs : List (List ℕ)) → AreIn xs xs
in-itself [] = tt
in-itself (x ∷ xs) = (ap (λ b. b || is_in x xs) (itself x), in-more x xs xs (in-itself xs))

abbrev pub IsNote : CompileOptions → List ℕ → Type 0
IsNote options w = (n : ℕ) × (w ≡ back_prefix options ++ note_tail n)

abbrev pub IsCall : CompileOptions → List ℕ → Type 0
IsCall options w = (n : ℕ) × (k : ℕ) × (w ≡ back_prefix options ++ call_tail n k)

-- the ids of footnotes that are among some are as all of them are, and so are those of calls
among-notes : (options : CompileOptions) → options.gfm_footnote_number_ids ≡ true →
    (w : List ℕ) (all identifiers : List (List ℕ)) →
    (occurs w (note_ids options all identifiers) ≡ 0) ⊎ IsNote options w
among-notes options on w all [] = inl refl
among-notes options on w all (x ∷ identifiers) =
    let number : ℕ = place_among (distinct all) x in
    cond_both (bytes_eq (note_id options all x) w) _ _ (λ n. (n ≡ 0) ⊎ IsNote options w)
    (λ e. inr (number, sym (same _ w e) ∙ note-back options on x number))
    (λ _. among-notes options on w all identifiers)

among-calls : (options : CompileOptions) → options.gfm_footnote_number_ids ≡ true →
    (w : List ℕ) (all before calls : List (List ℕ)) →
    (occurs w (ids_after options all before calls) ≡ 0) ⊎ IsCall options w
among-calls options on w all before [] = inl refl
among-calls options on w all before (x ∷ calls) =
    let number : ℕ = place_among (distinct all) x in
    let occurrence : ℕ = suc (count_of before x) in
    cond_both (bytes_eq (id_after options all before x) w) _ _ (λ n. (n ≡ 0) ⊎ IsCall options w)
    (λ e. inr (number, occurrence, sym (same _ w e) ∙ call-back options on x number occurrence))
    (λ _. among-calls options on w all (before ++ x ∷ []) calls)

-- the id of the heading
abbrev pub label_id : List (List ℕ)
label_id = codes "footnote-label" ∷ []

label-alone : (options : CompileOptions) (w : List ℕ) → EndsInDigit w → occurs w label_id ≡ 0
label-alone options w ends = occurs-other _ _ [] (λ e. label-no_digit w e ends)

-- each id is that of the heading, of one footnote or of one call, and of no two
pub document-once : (options : CompileOptions) → options.gfm_footnote_number_ids ≡ true →
    (w : List ℕ) (calls : List (List ℕ)) → length calls + 2 < 2 ^ 64 →
    occurs w label_id + occurs w (note_ids options calls (distinct calls))
    + occurs w (ids_after options calls [] calls) ≤ 1
document-once options on w calls small =
    let few : length calls + 1 < 2 ^ 64 = omega (small, arith) in
    let notes = notes-once options on w calls (distinct calls) few (distinct-apart calls)
    (in-itself (distinct calls)) in
    let called = calls-once options on w calls [] calls refl few (omega (small, arith)) in
    let heading = occurs-once w (codes "footnote-label") [] refl (omega arith) in
    grind (arith, among-notes, among-calls, label-alone, call-ends, note-ends, append_cancel_left)

-- an id that stands in a document is that of the heading, of a footnote or of a call
pub document-known : (options : CompileOptions) →
    options.gfm_footnote_number_ids ≡ true → (w : List ℕ) (calls : List (List ℕ)) →
    1 ≤ occurs w label_id + occurs w (note_ids options calls (distinct calls))
    + occurs w (ids_after options calls [] calls) →
    (codes "footnote-label" ≡ w) ⊎ (IsNote options w ⊎ IsCall options w)
document-known options on w calls some = cases (bytes_eq (codes "footnote-label") w) (λ e. inl (same
    (codes "footnote-label") w e)) (grind (arith, among-notes, among-calls))
