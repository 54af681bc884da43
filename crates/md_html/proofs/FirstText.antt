-- What is printed before all captured texts grows alone, where each that ends has begun.
use Rattle.std.proofs.Common.{◌≡◌, ◌≤◌, ℕ, zero, suc, Bool, true, false, List}
use Rattle.std.proofs.Common.{[], ◌∷◌, ◌++◌, length, ap, ◌∙◌, arith}
use Rattle.std.specs.Prelude.{if◌then◌else◌}
use Rattle.std.proofs.lemmas.Bool.{and_parts}
use Rattle.std.proofs.lemmas.List.{length-append}
use Rattle.md_base.specs.declared.event.Event.{Event}
use Rattle.md_meaning.specs.Meaning.At.{Context}
use Rattle.md_meaning.specs.Meaning.Layout.{Piece, Text, Needed, Forced, laid_after, begins_line}
use Rattle.md_steps.specs.Run.{Noticed, passes, stepped, run}
use Rattle.md_steps.specs.State.{State, NodeFacts}
use Rattle.md_html.specs.Fits.{may_end, captured_after, fits}
use Rattle.md_measure.specs.Nesting.{is_none}

-- ---- pieces are laid out after a text
with_ending : (b : Bool) (text ending : List ℕ) →
    length text ≤ length (if b then text else text ++ ending)
with_ending true text ending = omega arith
with_ending false text ending = omega (arith, length-append text ending)

pub laid-grows : (ending text : List ℕ) (pieces : List Piece) →
    length text ≤ length (laid_after ending text pieces)
laid-grows ending text [] = omega arith
laid-grows ending text (Text more ∷ pieces) =
    omega (arith, length-append text more, laid-grows ending (text ++ more) pieces)
laid-grows ending text (Needed ∷ pieces) =
    let next : List ℕ = if begins_line text then text else text ++ ending in
    omega (arith, with_ending (begins_line text) text ending, laid-grows ending next pieces)
laid-grows ending text (Forced ∷ pieces) =
    omega (arith, length-append text ending, laid-grows ending (text ++ ending) pieces)

-- ---- the text before all captured ones
abbrev pub outermost : List ℕ → List (List ℕ) → List ℕ
outermost text [] = text
outermost text (outer ∷ others) = outermost outer others

abbrev pub first : State → List ℕ
first state = outermost state.text state.below

outermost-grows : (text more : List ℕ) (below : List (List ℕ)) → length text ≤ length more →
    length (outermost text below) ≤ length (outermost more below)
outermost-grows text more [] le = le
outermost-grows text more (outer ∷ others) le = omega arith

-- ---- one event

-- how many texts are captured after an event
pub stepped-captured : (context : Context) (event : Event) (facts : NodeFacts) (state : State) →
    length (stepped context event facts state).below ≡ captured_after event (length state.below)
stepped-captured context event facts state = grind arith

-- what is before them is no shorter
stepped-first : (context : Context) (event : Event) (facts : NodeFacts) (state : State) →
    may_end event (length state.below) ≡ true →
    length (first state) ≤ length (first (stepped context event facts state))
stepped-first context event facts state may = grind (arith, laid-grows, outermost-grows)

-- ---- all that are left
no-captured : (text : List ℕ) (below : List (List ℕ)) → is_none (length below) ≡ true →
    length (outermost text below) ≤ length text
no-captured text [] e = omega arith
no-captured text (outer ∷ others) e = cc

-- what is printed before all captured texts is no longer than the text after all events
pub run-grows :
    (context : Context) (left : ℕ) (events : List Event) (seen : List Noticed) (state : State) →
    fits left (length state.below) events seen ≡ true →
    length (first state) ≤ length (run context left events seen state).text
run-grows context left [] seen state f = no-captured state.text state.below f
run-grows context left (event ∷ events) [] state f = cc
run-grows context (suc left) (event ∷ events) (one ∷ seen) state f =
    run-grows context left events seen state f
run-grows context zero (event ∷ events) (one ∷ seen) state f =
    let next : State = stepped context event one.facts state in
    let skips : ℕ = passes event one.inside in
    let both = and_parts (may_end event (length state.below))
    (fits skips (captured_after event (length state.below)) events seen) f in
    omega (
      arith,
      stepped-first context event one.facts state both.0,
      run-grows context skips events seen next (ap (λ n. fits skips n events seen)
          (stepped-captured context event one.facts state) ∙ both.1),
    )
