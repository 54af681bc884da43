-- The steps over the events of some nodes are those over the nodes.
use Rattle.std.proofs.Common.{◌≡◌, ℕ, suc, Bool, true, false, ◌&&◌, List, [], ◌∷◌, ◌++◌}
use Rattle.std.proofs.Common.{length, refl, ◌∙◌, append_assoc}
use Rattle.std.specs.Prelude.{if◌then◌else◌}
use Rattle.std.proofs.lemmas.List.{length-append}
use Rattle.md_base.specs.declared.event.Event.{Event}
use Rattle.md_base.specs.Tree.{Forest, Empty, Node, flatten, exiting}
use Rattle.md_base.specs.Children.{is_empty}
use Rattle.md_meaning.specs.Meaning.At.{Context}
use Rattle.md_steps.specs.State.{State, NodeFacts, facts_of}
use Rattle.md_steps.specs.Steps.{entered, exited, passed, is_passed, over}
use Rattle.md_steps.specs.Run.{Noticed, noticed, run}

pub noticed-length : (bytes : List ℕ) (outermost : Bool) (forest : Forest) →
    length (noticed bytes outermost forest) ≡ length (flatten forest)
noticed-length bytes outermost Empty = refl
noticed-length bytes outermost (Node name start end children rest) =
    simp (length-append, noticed-length bytes false children, noticed-length bytes outermost rest)

-- events that are skipped, and the one after them
run-passes : (context : Context) (events : List Event) (seen : List Noticed) (event : Event)
    (one : Noticed) (tail : List Event) (more : List Noticed) (state : State) →
    length seen ≡ length events →
    run context (suc (length events)) (events ++ event ∷ tail) (seen ++ one ∷ more) state
    ≡ run context 0 tail more state
run-passes context [] [] event one tail more state same = refl
run-passes context [] (other ∷ seen) event one tail more state same = cc
run-passes context (other ∷ events) [] event one tail more state same = cc
run-passes context (other ∷ events) (another ∷ seen) event one tail more state same =
    run-passes context events seen event one tail more state cc

pub run-over :
    (context : Context) (outermost : Bool) (forest : Forest) (tail : List Event)
    (more : List Noticed)
    (state : State) →
    run context 0 (flatten forest ++ tail) (noticed context.bytes outermost forest ++ more) state
    ≡ run context 0 tail more (over context outermost forest state)
run-over context outermost Empty tail more state = refl
run-over context outermost (Node name start end children rest) tail more state =
    let facts : NodeFacts = facts_of context.bytes (outermost && is_empty rest) children start end
    in
    let here : Noticed = record { facts = facts; inside = suc (length (flatten children)) } in
    let begun : State = entered context facts name state in
    let done : State = exited context facts name (over context false children begun) in
    elim (is_passed name) as (λ b. run context (if b then suc (length (flatten children)) else 0)
    ((flatten children ++ exiting name end ∷ flatten rest) ++ tail)
    ((noticed context.bytes false children ++ here ∷ noticed context.bytes outermost rest) ++ more)
    (if b then passed state else begun)
    ≡ run context 0 tail more (over context outermost rest (if b then passed state else done))) [
      | true ↦ rw (
        append_assoc (flatten children) (exiting name end ∷ flatten rest) tail,
        append_assoc (noticed context.bytes false children)
            (here ∷ noticed context.bytes outermost rest) more,
      )
          (run-passes context (flatten children) (noticed context.bytes false children)
          (exiting name end) here (flatten rest ++ tail)
          (noticed context.bytes outermost rest ++ more) (passed state)
          (noticed-length context.bytes false children)
          ∙ run-over context outermost rest tail more (passed state))
      | false ↦ rw (
        append_assoc (flatten children) (exiting name end ∷ flatten rest) tail,
        append_assoc (noticed context.bytes false children)
            (here ∷ noticed context.bytes outermost rest) more,
      )
          (run-over context false children (exiting name end ∷ (flatten rest ++ tail))
          (here ∷ (noticed context.bytes outermost rest ++ more)) begun
          ∙ run-over context outermost rest tail more done)
    ]
