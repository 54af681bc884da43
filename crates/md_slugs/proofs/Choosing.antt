-- What is chosen is distinct, from what was there too.
use Rattle.std.proofs.Common.{◌≡◌, ℕ, ◌+◌, ◌<◌, zero, suc, Bool, true, false, not, ◌||◌, cond}
use Rattle.std.proofs.Common.{List, [], ◌∷◌, ◌++◌, map, length, drop, refl, sym, ap, ◌∙◌, inl, inr}
use Rattle.std.proofs.Common.{arith}
use Rattle.std.specs.Prelude.{slice_get}
use Rattle.std.specs.Str.{bytes_eq}
use Rattle.std.specs.Option.{option_map_or}
use Rattle.std.specs.Cmp.Lexicographic.{bytes_decides}
use Rattle.std.proofs.lemmas.Bool.{and_parts, and_from, or_parts, or_from, or_cases, or_left}
use Rattle.std.proofs.lemmas.Bool.{or_right, not-true, cases_Bool}
use Rattle.std.proofs.lemmas.List.{map-append, drop_all}
use Rattle.md_base.proofs.Lies.{lie}
use Rattle.md_text.specs.Encode.{encoded}
use Rattle.md_text.specs.Ids.{are_distinct}
use Rattle.md_text.proofs.EncodeLaws.{is_escaped-encoded}
use Rattle.md_safe.specs.Token.{Token}
use Rattle.md_page.specs.Added.{gets_id, shown, headings_after, headings_of}
use Rattle.md_page.specs.GivenIds.{is_among, written_id, id_text, ids_after, ids_given}
use Rattle.md_page.proofs.Distinct.{in-append, count-picked, count-passed}
use Rattle.md_page.proofs.GivenDistinct.{other-way, after-picked, after-passed}
use Rattle.md_page.proofs.HeadingTexts.{encoded-seen}
use Rattle.md_page.proofs.LinkRule.{seen-encoded}
use Rattle.md_slugs.specs.Chosen.{AreChosen}

distinct-last : (xs : List (List ℕ)) (v : List ℕ) → are_distinct xs ≡ true →
    is_among v xs ≡ false → are_distinct (xs ++ (v ∷ [])) ≡ true
distinct-last [] v d n = refl
distinct-last (x ∷ xs) v d n =
    let p = and_parts (not (is_among x xs)) (are_distinct xs) d in
    let r = or_parts (bytes_eq x v) (is_among v xs) n in
    and_from (not (is_among x (xs ++ (v ∷ [])))) (are_distinct (xs ++ (v ∷ [])))
    (ap not (in-append x xs (v ∷ []) ∙ or_from (is_among x xs) (bytes_eq v x || false)
    (not-true (is_among x xs) p.0) (or_from (bytes_eq v x) false (other-way x v r.0) refl)))
    (distinct-last xs v p.1 r.1)

-- one more that is free
pub one-more : (others ids : List (List ℕ)) (id : List ℕ) (has : List ℕ → Bool) →
    AreChosen others ids →
    ((w : List ℕ) → has w ≡ (is_among w others || is_among w (map written_id ids))) →
    has (written_id id) ≡ false → AreChosen others (ids ++ (id ∷ []))
one-more others ids id has chosen iff free =
    let v = written_id id in
    let q = or_parts (is_among v others) (is_among v (map written_id ids)) (sym (iff v) ∙ free) in (
      ap are_distinct (map-append written_id ids (id ∷ []))
          ∙ distinct-last (map written_id ids) v chosen.0 q.1,
      λ w h. ap (is_among w) (map-append written_id ids (id ∷ []))
          ∙ in-append w (map written_id ids) (v ∷ [])
          ∙ or_from (is_among w (map written_id ids)) (bytes_eq v w || false) (chosen.1 w h)
          (or_from (bytes_eq v w) false (other w h q.0 (bytes_eq v w) refl) refl),
    )
  where
    other : (w : List ℕ) → is_among w others ≡ true → is_among (written_id id) others ≡ false →
        (b : Bool) → bytes_eq (written_id id) w ≡ b → b ≡ false
    other w h n true e =
        lie (sym n ∙ ap (λ v. is_among v others) ((bytes_decides (written_id id) w).0 e) ∙ h)
    other w h n false e = refl

pub has-more : (others ids : List (List ℕ)) (id : List ℕ) (has has' : List ℕ → Bool) →
    ((w : List ℕ) → has w ≡ (is_among w others || is_among w (map written_id ids))) →
    ((w : List ℕ) → has' w ≡ cond (bytes_eq (written_id id) w) true (has w)) →
    (w : List ℕ) →
    has' w ≡ (is_among w others || is_among w (map written_id (ids ++ (id ∷ []))))
has-more others ids id has has' iff more w =
    let v = written_id id in
    more w ∙ ap (λ b. cond (bytes_eq v w) true b) (iff w)
    ∙ by (bytes_eq v w) (is_among w others) (is_among w (map written_id ids))
    ∙ ap (λ b. is_among w others || b) (sym (ap (is_among w)
    (map-append written_id ids (id ∷ [])) ∙ in-append w (map written_id ids) (v ∷ [])))
  where
    by : (b x y : Bool) → cond b true (x || y) ≡ (x || (y || (b || false)))
    by true true y = refl
    by true false true = refl
    by true false false = refl
    by false true y = refl
    by false false true = refl
    by false false false = refl

-- ---- as a tokenizer sees them
written-shown : (id : List ℕ) → written_id id ≡ encoded true (shown id)
written-shown id =
    sym (encoded-seen (encoded true id) (is_escaped-encoded id))
    ∙ ap (encoded true) (seen-encoded id)

in-shown : (w : List ℕ) (ids : List (List ℕ)) → is_among w (map shown ids) ≡ true →
    is_among (encoded true w) (map written_id ids) ≡ true
in-shown w [] h = lie h
in-shown w (id ∷ ids) h =
    elim (or_cases (bytes_eq (shown id) w) (is_among w (map shown ids)) h) [
      | inl e ↦
          or_left (bytes_eq (written_id id) (encoded true w))
          (is_among (encoded true w) (map written_id ids))
          ((bytes_decides (written_id id) (encoded true w)).1
          (written-shown id ∙ ap (encoded true) ((bytes_decides (shown id) w).0 e)))
      | inr later ↦
          or_right (bytes_eq (written_id id) (encoded true w))
          (is_among (encoded true w) (map written_id ids)) (in-shown w ids later)
    ]

out-shown : (w : List ℕ) (ids : List (List ℕ)) →
    is_among (encoded true w) (map written_id ids) ≡ false → is_among w (map shown ids) ≡ false
out-shown w ids h = by (is_among w (map shown ids)) refl
  where
    by : (b : Bool) → is_among w (map shown ids) ≡ b → b ≡ false
    by true e = lie (sym h ∙ in-shown w ids e)
    by false e = refl

distinct-shown : (ids : List (List ℕ)) → are_distinct (map written_id ids) ≡ true →
    are_distinct (map shown ids) ≡ true
distinct-shown [] h = refl
distinct-shown (id ∷ ids) h =
    let p = and_parts (not (is_among (written_id id) (map written_id ids)))
    (are_distinct (map written_id ids)) h in
    and_from (not (is_among (shown id) (map shown ids))) (are_distinct (map shown ids))
    (ap not (out-shown (shown id) ids
    (ap (λ w. is_among w (map written_id ids)) (sym (written-shown id))
    ∙ not-true (is_among (written_id id) (map written_id ids)) p.0)))
    (distinct-shown ids p.1)

distinct-both : (xs ys : List (List ℕ)) → are_distinct xs ≡ true → are_distinct ys ≡ true →
    ((w : List ℕ) → is_among w xs ≡ true → is_among w ys ≡ false) →
    are_distinct (xs ++ ys) ≡ true
distinct-both [] ys d e f = e
distinct-both (x ∷ xs) ys d e f =
    let p = and_parts (not (is_among x xs)) (are_distinct xs) d in
    and_from (not (is_among x (xs ++ ys))) (are_distinct (xs ++ ys))
    (ap not (in-append x xs ys ∙ or_from (is_among x xs) (is_among x ys)
    (not-true (is_among x xs) p.0) (f x (or_left (bytes_eq x x) (is_among x xs)
    ((bytes_decides x x).1 refl)))))
    (distinct-both xs ys p.1 e (λ w h. f w (or_right (bytes_eq x w) (is_among w xs) h)))

pub distinct-all : (others ids xs : List (List ℕ)) → are_distinct xs ≡ true →
    ((id : List ℕ) → is_among id xs ≡ true → is_among (encoded true id) others ≡ true) →
    AreChosen others ids → are_distinct (xs ++ map shown ids) ≡ true
distinct-all others ids xs d found chosen =
    distinct-both xs (map shown ids) d (distinct-shown ids chosen.0)
    (λ w h. out-shown w ids (chosen.1 (encoded true w) (found w h)))

-- ---- each heading gets one
get-step : (other : List ℕ) (ids : List (List ℕ)) (n : ℕ) → n < length ids →
    drop n ids ≡ option_map_or (λ text. text) (slice_get ids n) other ∷ drop (suc n) ids
get-step other [] n h = absurd (none h)
  where
    none : n < 0 → ⊥
    none h = omega (arith, h)
get-step other (id ∷ ids) zero h = refl
get-step other (id ∷ ids) (suc n) h = get-step other ids n (omega (arith, h))

given-from : (ids : List (List ℕ)) (n : ℕ) (x : List Token) →
    length ids ≡ n + length (headings_after n x) → ids_after ids n x ≡ map shown (drop n ids)
given-from ids n [] h = ap (map shown) (sym (drop_all n ids (omega (arith, h))))
given-from ids n (t ∷ x) h = elim (cases_Bool (gets_id t)) [
  | inl yes_it ↦ (let c = count-picked n t x yes_it in
      after-picked ids n t x yes_it
      ∙ ap (λ y. shown (id_text ids n) ∷ y) (given-from ids (suc n) x (omega (arith, h, c)))
      ∙ ap (map shown) (sym (get-step _ ids n (omega (arith, h, c)))))
  | inr no_it ↦ (let c = count-passed n t x no_it in
      after-passed ids n t x no_it ∙ given-from ids n x (omega (arith, h, c)))
]

pub given-all : (ids : List (List ℕ)) (x : List Token) →
    length ids ≡ length (headings_of x) → ids_given ids x ≡ map shown ids
given-all ids x h = given-from ids 0 x (omega (arith, h))
