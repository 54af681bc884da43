-- The events between two indices, in sequence.
use Rattle.std.proofs.Common.{◌≡◌, ◌≤◌, ◌<◌, ℕ, zero, suc, ◌+◌, Some, List, [], ◌∷◌, length, take}
use Rattle.std.proofs.Common.{drop, refl, ap, ◌∙◌, arith, add-one, take_all, length-take}
use Rattle.std.proofs.Common.{drop-drop, get_or-take}
use Rattle.std.specs.Prelude.{slice_get}
use Rattle.std.proofs.lemmas.List.{drop_more, drop_all}
use Rattle.std.proofs.lemmas.Option.{slice_get_within, get_or_from_slice_get}
use Rattle.md_base.specs.declared.event.Event.{Event}
use Rattle.md_meaning.specs.Meaning.At.{Context}
use Rattle.md_steps.specs.Run.{Noticed, run}
use Rattle.md_steps.specs.State.{State}
use Rattle.md_html.specs.Windows.{window}

window-first : {A : Type 0} (xs : List A) (i to : ℕ) (x : A) → i < to → slice_get xs i ≡ Some x →
    window i to xs ≡ x ∷ window (suc i) to xs
window-first xs i to x lt got =
    let inside : i < length (take to xs) =
    omega (arith, length-take to xs, lt, slice_get_within xs i x got) in
    drop_more (take to xs) i x inside
    ∙ ap (λ y. y ∷ drop (i + 1) (take to xs))
    (get_or-take to xs i x lt ∙ get_or_from_slice_get xs i x x got)
    ∙ ap (λ n. x ∷ drop n (take to xs)) (add-one i)

-- nothing is left
window-none : {A : Type 0} (xs : List A) (i to : ℕ) → to ≤ i → window i to xs ≡ []
window-none xs i to le = drop_all i (take to xs) (omega (arith, length-take to xs, le))

-- two lists from an index on: their first elements, and what is left after some are skipped
module _ {A B C : Type 0} (f : List A → List B → C) (xs : List A) (ys : List B) (i to : ℕ) where
  pub windows-first : (x : A) (y : B) → i < to → slice_get xs i ≡ Some x →
      slice_get ys i ≡ Some y →
      f (window i to xs) (window i to ys)
      ≡ f (x ∷ window (suc i) to xs) (y ∷ window (suc i) to ys)
  windows-first x y lt got there = grind (arith, window-first)

  pub windows-drop : (n next : ℕ) → next ≡ i + n →
      f (drop n (window i to xs)) (drop n (window i to ys))
      ≡ f (window next to xs) (window next to ys)
  windows-drop n next e = grind (arith, drop-drop)

-- all that stands in two lists
pub windows-all : {A B C : Type 0} (f : List A → List B → C) (xs : List A) (ys : List B) (n : ℕ) →
    n ≡ length xs → n ≡ length ys → f (window 0 n xs) (window 0 n ys) ≡ f xs ys
windows-all f xs ys n e g = grind (arith, take_all)

-- events that are skipped
run-none : (context : Context) (left : ℕ) (events : List Event) (state : State) →
    run context left events [] state ≡ state
run-none context left [] state = refl
run-none context left (event ∷ events) state = refl

pub run-passing :
    (context : Context) (left : ℕ) (events : List Event) (seen : List Noticed) (state : State) →
    run context left events seen state ≡ run context 0 (drop left events) (drop left seen) state
run-passing context zero events seen state = refl
run-passing context (suc left) [] seen state = refl
run-passing context (suc left) (event ∷ events) [] state = grind (arith, run-none)
run-passing context (suc left) (event ∷ events) (one ∷ seen) state =
    run-passing context left events seen state

-- no event is left
pub window-end : (context : Context) (events : List Event) (seen : List Noticed) (i to : ℕ)
    (state : State) → to ≤ i →
    run context 0 (window i to events) (window i to seen) state ≡ state
window-end context events seen i to state le = grind (arith, window-none)
