-- The ids that headings get are distinct, and none of them was there before.
use Rattle.std.specs.Str.{bytes_eq}
use Rattle.std.specs.Prelude.{nat_eq}
use Rattle.std.proofs.Common.{◌≡◌, ℕ, ◌+◌, ◌≤◌, ◌<◌, ◌^◌, zero, suc, true, false, not, ◌||◌}
use Rattle.std.proofs.Common.{List, [], ◌∷◌, ◌++◌, length, refl, sym, ap, ◌∙◌, codes, eq-eqb, inl}
use Rattle.std.proofs.Common.{inr, arith, append-nil}
use Rattle.std.specs.List.{starts_with}
use Rattle.std.specs.Fmt.{decimal}
use Rattle.std.specs.Cmp.Lexicographic.{bytes_decides}
use Rattle.std.proofs.lemmas.Bool.{and_parts, and_from, not-true, cases_Bool, cond_both}
use Rattle.std.proofs.lemmas.Bool.{cond-true, cond-false}
use Rattle.std.proofs.lemmas.Fmt.{decimal_injective}
use Rattle.std.proofs.lemmas.List.{append_cancel_left}
use Rattle.std.proofs.lemmas.List.Folds.{list_any-append}
use Rattle.md_base.proofs.Lies.{lie}
use Rattle.md_text.specs.Ids.{are_distinct}
use Rattle.md_text.proofs.HtmlIds.{occurs, occurs-append, distinct-ids}
use Rattle.md_safe.specs.Token.{Token, TokenAttribute, StartTag}
use Rattle.md_safe.proofs.IdsOnce.{occurs-other}
use Rattle.md_page.specs.Added.{added, with_attribute, has_attribute, gets_id, shown}
use Rattle.md_page.specs.Added.{with_heading_ids, headings_after, headings_of}
use Rattle.md_page.specs.GivenIds.{is_among}
use Rattle.md_page.specs.Ids.{ids_in, ids_at, ids_among, none_begins}
use Rattle.md_page.proofs.HeadingRule.{id_seen}

pub in-append : (w : List ℕ) (xs ys : List (List ℕ)) →
    is_among w (xs ++ ys) ≡ (is_among w xs || is_among w ys)
in-append w xs ys = list_any-append (λ x. bytes_eq x w) xs ys

-- one more text that isn't among the others stands there once
first : (x : List ℕ) (xs : List (List ℕ)) (w : List ℕ) → occurs x xs ≡ 0 → occurs w xs ≤ 1 →
    occurs w (x ∷ xs) ≤ 1
first x xs w none few = grind (arith, cond_both, bytes_decides)

-- if no two of some texts are equal, each stands among them at most once
pub once : (xs : List (List ℕ)) → are_distinct xs ≡ true → (w : List ℕ) → occurs w xs ≤ 1
once [] d w = omega arith
once (x ∷ xs) d w =
    let p = and_parts (not (is_among x xs)) (are_distinct xs) d in
    first x xs w (none x xs (not-true _ p.0)) (once xs p.1 w)
  where
    none : (w : List ℕ) (xs : List (List ℕ)) → is_among w xs ≡ false → occurs w xs ≡ 0
    none w [] h = refl
    none w (x ∷ xs) h = let later = none w xs in grind (arith, later, h)

-- ---- tokens with ids added to their headings

-- the values for k headings, from number n on
abbrev pub values_from : (ℕ → List ℕ) → ℕ → ℕ → List (List ℕ)
values_from values n zero = []
values_from values n (suc k) = values n ∷ values_from values (suc n) k

-- how many headings follow after so many
pub count-picked : (n : ℕ) (t : Token) (x : List Token) → gets_id t ≡ true →
    length (headings_after n (t ∷ x)) ≡ suc (length (headings_after (suc n) x))
count-picked n t x h = ap length (cond-true (gets_id t) _ _ h)

pub count-passed : (n : ℕ) (t : Token) (x : List Token) → gets_id t ≡ false →
    length (headings_after n (t ∷ x)) ≡ length (headings_after n x)
count-passed n t x h = ap length (cond-false (gets_id t) _ _ h)

-- a heading without an `id` gets this one alone
past-ids : (x y : List TokenAttribute) → has_attribute (codes "id") x ≡ false →
    ids_in (x ++ y) ≡ ids_in y
past-ids [] y h = refl
past-ids (a ∷ x) y h = let later = past-ids x y in grind (arith, later, h)

old-none : (t : Token) → gets_id t ≡ true → ids_at t ≡ []
old-none (StartTag name x flag) h = grind (arith, append-nil x, past-ids x [])
old-none t h = lie h

new-one : (values : ℕ → List ℕ) (n : ℕ) (t : Token) → gets_id t ≡ true →
    ids_at (with_attribute t (id_seen values n)) ≡ values n ∷ []
new-one values n t h = grind (arith, past-ids)

-- each text stands among the ids as often as among the former ids and the values
counted : (values : ℕ → List ℕ) (w : List ℕ) (n : ℕ) (x : List Token) →
    occurs w (ids_among (added gets_id (id_seen values) n x))
    ≡ occurs w (ids_among x) + occurs w (values_from values n (length (headings_after n x)))
counted values w n [] = omega arith
counted values w n (t ∷ x) =
    let on = counted values w (suc n) x in
    let off = counted values w n x in
    grind (arith, new-one, old-none, occurs-append, on, off)

pub distinct-made : (values : ℕ → List ℕ) (x : List Token) →
    ((w : List ℕ) → occurs w (ids_among x)
    + occurs w (values_from values 0 (length (headings_of x))) ≤ 1) →
    are_distinct (ids_among (added gets_id (id_seen values) 0 x)) ≡ true
distinct-made values x few = grind (arith, distinct-ids, counted)

-- ---- numbers after a prefix

abbrev numbered : List ℕ → ℕ → List ℕ
numbered prefix n = prefix ++ decimal (suc n)

begins-itself : (prefix more : List ℕ) → starts_with nat_eq (prefix ++ more) prefix ≡ true
begins-itself [] more = refl
begins-itself (b ∷ prefix) more = and_from _ _ (eq-eqb b b refl) (begins-itself prefix more)

-- a text that doesn't begin with the prefix isn't among its numbers
unbegun : (prefix w : List ℕ) (n k : ℕ) → starts_with nat_eq w prefix ≡ false →
    occurs w (values_from (numbered prefix) n k) ≡ 0
unbegun prefix w n zero h = refl
unbegun prefix w n (suc k) h =
    grind (arith, occurs-other, begins-itself, unbegun prefix w (suc n) k h)

-- a text that begins with the prefix isn't among texts that don't
begun : (prefix w : List ℕ) (xs : List (List ℕ)) → starts_with nat_eq w prefix ≡ true →
    none_begins prefix xs ≡ true → occurs w xs ≡ 0
begun prefix w [] h none = refl
begun prefix w (x ∷ xs) h none =
    let p = and_parts (not (starts_with nat_eq x prefix)) (none_begins prefix xs) none in
    occurs-other w x xs (λ e. lie (sym (not-true _ p.0) ∙ rw (← e) at h)) ∙ begun prefix w xs h p.1

-- a number that was given before isn't given again
none-later : (prefix : List ℕ) (m n k : ℕ) → m < n → n + k < 2 ^ 64 →
    occurs (numbered prefix m) (values_from (numbered prefix) n k) ≡ 0
none-later prefix m n zero low few = refl
none-later prefix m n (suc k) low few =
    let later = none-later prefix m (suc n) k in
    grind (arith, occurs-other, decimal_injective, append_cancel_left, later)

numbers-once : (prefix w : List ℕ) (n k : ℕ) → n + k < 2 ^ 64 →
    occurs w (values_from (numbered prefix) n k) ≤ 1
numbers-once prefix w n zero few = omega arith
numbers-once prefix w n (suc k) few =
    grind (arith, first, none-later, numbers-once prefix w (suc n) k)

pub distinct-headings : (prefix : List ℕ) (x : List Token) → length (headings_of x) < 2 ^ 64 →
    are_distinct (ids_among x) ≡ true → none_begins (shown prefix) (ids_among x) ≡ true →
    are_distinct (ids_among (with_heading_ids prefix x)) ≡ true
distinct-headings prefix x few d h =
    let start = shown prefix in
    let n = length (headings_of x) in
    distinct-made (numbered start) x (λ w. elim (cases_Bool (starts_with nat_eq w start)) [
      | inl is ↦ grind (arith, begun, numbers-once)
      | inr not_so ↦ omega (arith, unbegun start w 0 n not_so, once (ids_among x) d w)
    ])
