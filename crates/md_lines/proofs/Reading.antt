-- A cursor's text, by its place.
use Rattle.std.proofs.Common.{◌≡◌, ◌<◌, ◌≤◌, ◌+◌, ◌-◌, ◌∙◌, ℕ, Bool, true, false, List, [], ◌∷◌, zero, suc}
use Rattle.std.proofs.Common.{length, drop, take, drop-cons, get_or, arith, ap, refl, sym, inl, inr}
use Rattle.std.specs.Prelude.{map, min, Some, nat_lt}
use Rattle.std.specs.List.{prefix_len, slice_get}
use Rattle.std.specs.Prelude.{Option, None, IfSome}
use Rattle.std.proofs.Common.{subst}
use Rattle.std.proofs.lemmas.Option.{slice_get_within}
use Rattle.std.proofs.lemmas.Bool.{cases_lt, lt-ltb, le-ltb}
use Rattle.std.proofs.lemmas.List.{length-take, get_or-take, drop_all, take_min, drop-drop, drop-take}
use Rattle.md_lines.specs.declared.line.Line.{Line}
use Rattle.md_lines.specs.Reading.{line_text}
use Rattle.md_lines.specs.Texts.{is_none, next_in, after_next}

-- the next byte of a line that ends with an index
pub here : (xs : List ℕ) (at end : ℕ) → at < end → end ≤ length xs →
    drop at (take end xs) ≡ get_or xs at 0 ∷ drop (suc at) (take end xs)
here xs at end before within =
    let long : at < length (take end xs) = omega (arith, length-take end xs) in
    drop-cons (take end xs) at 0 long
    ∙ ap (λ x. x ∷ drop (suc at) (take end xs)) (get_or-take end xs at 0 before)

-- nothing is left at its end
pub none : (xs : List ℕ) (at end : ℕ) → end ≤ at → drop at (take end xs) ≡ []
none xs at end over = drop_all at (take end xs) (omega (arith, length-take end xs))

pub has_more : {A B : Type 0} (f : A → B) (xs : List A) (k : ℕ) → k < length xs →
    is_none (map f (drop k xs)) ≡ false
has_more f [] k within = absurd (omega arith)
has_more f (x ∷ xs) zero within = refl
has_more f (x ∷ xs) (suc k) within = has_more f xs k (omega arith)

-- a line ending comes next where a line has ended and another one follows
pub ending_next : (text : List ℕ) (lines : List (List ℕ)) → text ≡ [] → is_none lines ≡ false →
    Some 10 ≡ next_in (text ∷ lines)
ending_next text lines ended more = rw (ended, more) refl

-- the next line, and those after it
pub next_line : (bytes : List ℕ) (lines : List Line) (line end : ℕ) (next : Line) →
    line + 1 < length lines → next ≡ get_or lines (line + 1) next → end ≡ min next.end (length bytes) →
    drop next.start (take end bytes) ∷ map (line_text bytes) (drop (suc (line + 1)) lines)
    ≡ map (line_text bytes) (drop (suc line) lines)
next_line bytes lines line end next within is ends =
    let one : line + 1 ≡ suc line = omega arith in
    ap (λ n. drop next.start (take n bytes) ∷ map (line_text bytes) (drop (suc (line + 1)) lines)) ends
    ∙ ap (λ xs. drop next.start xs ∷ map (line_text bytes) (drop (suc (line + 1)) lines))
    (take_min next.end bytes)
    ∙ ap (λ x. line_text bytes x ∷ map (line_text bytes) (drop (suc (line + 1)) lines)) is
    ∙ sym (ap (map (line_text bytes)) (drop-cons lines (line + 1) next within))
    ∙ ap (λ n. map (line_text bytes) (drop n lines)) one

-- past a byte of a line, and past its end
pub after_byte : (bytes : List ℕ) (at end : ℕ) (lines : List (List ℕ)) → at < end →
    end ≤ length bytes →
    drop (at + 1) (take end bytes) ∷ lines ≡ after_next (drop at (take end bytes) ∷ lines)
after_byte bytes at end lines before within =
    let one : at + 1 ≡ suc at = omega arith in
    ap (λ n. drop n (take end bytes) ∷ lines) one
    ∙ sym (ap (λ xs. after_next (xs ∷ lines)) (here bytes at end before within))

pub after_ending : (text : List ℕ) (lines : List (List ℕ)) (x : List ℕ) (xs : List (List ℕ))
    (is_next : Bool) → text ≡ [] → (is_next ≡ true → x ∷ xs ≡ lines) →
    (is_next ≡ false → lines ≡ []) → (is_next ≡ false → x ∷ xs ≡ text ∷ lines) →
    x ∷ xs ≡ after_next (text ∷ lines)
after_ending text lines x xs true ended moved last stays = rw (ended, sym (moved refl)) refl
after_ending text lines x xs false ended moved last stays =
    stays refl ∙ ap (λ t. t ∷ lines) ended ∙ ap (λ ls. [] ∷ ls) (last refl)
    ∙ sym (ap after_next (ap (λ t. t ∷ lines) ended ∙ ap (λ ls. [] ∷ ls) (last refl)))

prefix_take : (p : ℕ → Bool) (k : ℕ) (xs : List ℕ) → prefix_len p (take k xs) ≡ min k (prefix_len p xs)
prefix_take p zero xs = omega arith
prefix_take p (suc k) [] = omega arith
prefix_take p (suc k) (x ∷ xs) = grind (arith, prefix_take p k xs)

cut : (xs : List ℕ) (at end : ℕ) → at ≤ end → drop at (take end xs) ≡ take (end - at) (drop at xs)
cut xs at end before =
    let sum : end ≡ at + (end - at) = omega arith in
    ap (λ n. drop at (take n xs)) sum ∙ drop-take at (end - at) xs

-- how many bytes of a line pass a test, from how many of the document do
pub run_in : (p : ℕ → Bool) (xs : List ℕ) (at end : ℕ) →
    prefix_len p (drop at (take end xs)) ≡ min (end - at) (prefix_len p (drop at xs))
run_in p xs at end = elim (cases_lt at end) [
  | inl before ↦ ap (prefix_len p) (cut xs at end (omega arith)) ∙ prefix_take p (end - at) (drop at xs)
  | inr over ↦ ap (prefix_len p) (none xs at end over) ∙ omega arith
]

-- where the bytes end that pass a test, from what a loop over the document knows
pub stop_at : (p : ℕ → Bool) (xs : List ℕ) (from at end : ℕ) → from ≤ at →
    (from < at → at ≤ end) →
    from + prefix_len p (drop from xs) ≡ at + prefix_len p (drop at xs) →
    (at < end → prefix_len p (drop at xs) ≡ 0) →
    at ≡ from + prefix_len p (drop from (take end xs))
stop_at p xs from at end forward within sum stops = elim (cases_lt from at) [
  | inl moved ↦ elim (cases_lt at end) [
    | inl before ↦ omega (arith, within moved, sum, stops before, run_in p xs from end)
    | inr over ↦ omega (arith, within moved, sum, run_in p xs from end)
  ]
  | inr same ↦ elim (cases_lt at end) [
    | inl before ↦ omega (arith, sum, stops before, run_in p xs from end)
    | inr over ↦ omega (arith, run_in p xs from end)
  ]
]

-- the text after them, and whether there are any
pub skipped : (p : ℕ → Bool) (xs : List ℕ) (at end new : ℕ) →
    new ≡ at + prefix_len p (drop at (take end xs)) →
    drop new (take end xs) ≡ drop (prefix_len p (drop at (take end xs))) (drop at (take end xs))
skipped p xs at end new is =
    ap (λ n. drop n (take end xs)) is
    ∙ sym (drop-drop (prefix_len p (drop at (take end xs))) at (take end xs))

more_than : (at n : ℕ) → nat_lt at (at + n) ≡ nat_lt 0 n
more_than at zero = le-ltb at (at + 0) (omega arith)
more_than at (suc n) = lt-ltb at (at + suc n) (omega arith) ∙ sym (lt-ltb 0 (suc n) (omega arith))

pub any_in : (p : ℕ → Bool) (xs : List ℕ) (at end new : ℕ) →
    new ≡ at + prefix_len p (drop at (take end xs)) →
    nat_lt at new ≡ nat_lt 0 (prefix_len p (drop at (take end xs)))
any_in p xs at end new is = ap (nat_lt at) is ∙ more_than at _

got : {A B : Type 0} (f : A → B) (xs : List A) (k : ℕ) (x : A) → slice_get xs k ≡ Some x →
    map f (drop k xs) ≡ f x ∷ map f (drop (suc k) xs)
got f [] k x is = cc
got f (y ∷ xs) zero x is = let same : y ≡ x = cc in ap (λ z. f z ∷ map f xs) same
got f (y ∷ xs) (suc k) x is = got f xs k x is

-- the text of a new cursor that begins with a line
pub begun : (bytes : List ℕ) (lines : List Line) (k line at end : ℕ) → line ≡ min k (length lines) →
    IfSome (slice_get lines line) (λ x. end ≡ min x.end (length bytes)) →
    IfSome (slice_get lines k) (λ x. at ≡ x.start →
    drop at (take end bytes) ∷ map (line_text bytes) (drop (suc line) lines)
    ≡ map (line_text bytes) (drop k lines))
begun bytes lines k line at end is ends = by_get (slice_get lines k) refl where
  by_get : (o : Option Line) → slice_get lines k ≡ o → IfSome o (λ x. at ≡ x.start →
      drop at (take end bytes) ∷ map (line_text bytes) (drop (suc line) lines)
      ≡ map (line_text bytes) (drop k lines))
  by_get None known = tt
  by_get (Some x) known = λ starts.
      let same : line ≡ k = omega (arith, slice_get_within lines k x known, is) in
      let ending : end ≡ min x.end (length bytes) =
      subst (λ o. IfSome o (λ (x : Line). end ≡ min x.end (length bytes)))
      (ap (slice_get lines) same ∙ known) ends in
      ap (λ n. drop n (take end bytes) ∷ map (line_text bytes) (drop (suc line) lines)) starts
      ∙ ap (λ n. drop x.start (take n bytes) ∷ map (line_text bytes) (drop (suc line) lines)) ending
      ∙ ap (λ xs. drop x.start xs ∷ map (line_text bytes) (drop (suc line) lines))
      (take_min x.end bytes)
      ∙ ap (λ n. line_text bytes x ∷ map (line_text bytes) (drop (suc n) lines)) same
      ∙ sym (got (line_text bytes) lines k x known)
