-- The steps over a document: over its events, after those over its definitions.
use Rattle.std.specs.Prelude.{ℕ, zero, suc, Bool, true, false, ◌&&◌, if◌then◌else◌, List, [], ◌∷◌}
use Rattle.std.specs.Prelude.{◌++◌, length}
use Rattle.md_base.specs.declared.event.Name.TheVariants.{Definition}
use Rattle.md_base.specs.declared.event.Kind.TheVariants.{Enter, Exit}
use Rattle.md_base.specs.declared.event.Event.{Event}
use Rattle.md_base.specs.Tree.{Forest, Empty, Node, flatten}
use Rattle.md_base.specs.Children.{is_empty}
use Rattle.md_meaning.specs.Meaning.At.{Defined, Context, identifier_of}
use Rattle.md_meaning.specs.Meaning.{ending_at}
use Rattle.md_meaning.specs.Meaning.Finds.{first_ending}
use Rattle.md_meaning.specs.Meaning.Footnotes.{section}
use Rattle.md_meaning.specs.Meaning.Layout.{laid_after}
use Rattle.md_text.specs.declared.options.CompileOptions.{CompileOptions}
use Rattle.md_steps.specs.State.{State, NodeFacts, facts_of}
use Rattle.md_steps.specs.Steps.{entered, exited, passed, is_passed, over}
use Rattle.md_steps.specs.Steps.{beginning}

-- the facts about a node, and how many events come between its entry and its exit
pub record Noticed : Type 0 where
  pub facts : NodeFacts
  pub inside : ℕ

-- the facts at each event of some nodes
abbrev pub noticed : List ℕ → Bool → Forest → List Noticed
noticed bytes outermost Empty = []
noticed bytes outermost (Node name start end children rest) =
    let here : Noticed = record {
      facts = facts_of bytes (outermost && is_empty rest) children start end;
      inside = suc (length (flatten children));
    }
    in
    here ∷ noticed bytes false children ++ here ∷ noticed bytes outermost rest

abbrev pub stepped : Context → Event → NodeFacts → State → State
stepped context event facts state = elim event.kind [
  | Enter ↦ if is_passed event.name then passed state else entered context facts event.name state
  | Exit ↦ exited context facts event.name state
]

-- how many events are skipped after one
abbrev pub passes : Event → ℕ → ℕ
passes event inside =
    elim event.kind [ Enter ↦ if is_passed event.name then inside else 0 | Exit ↦ 0 ]

-- the events in order, after so many that are skipped
abbrev pub run : Context → ℕ → List Event → List Noticed → State → State
run context passed_over [] seen state = state
run context passed_over (event ∷ events) [] state = state
run context (suc left) (event ∷ events) (one ∷ seen) state = run context left events seen state
run context zero (event ∷ events) (one ∷ seen) state =
    run context (passes event one.inside) events seen (stepped context event one.facts state)

-- the definitions in some nodes, each from its own events
abbrev pub defined : Context → Forest → List Defined
defined context Empty = []
defined context (Node name start end children rest) =
    (if is_passed name then record {
      identifier = identifier_of context.bytes children;
      target = (over context false children (entered context
          (facts_of context.bytes false children start end) Definition beginning)).target;
    } ∷ [] else defined context children) ++ defined context rest

-- the context of a document's nodes, before its definitions are known
abbrev pub context_alone : CompileOptions → List (List ℕ × List ℕ) → List ℕ → List ℕ → Context
context_alone options names bytes ending = record {
  bytes = bytes;
  names = names;
  options = options;
  ending = ending;
  calls = [];
  definitions = [];
}

-- the steps over a document, after those over its definitions; then the section of its footnotes
abbrev pub printed : CompileOptions → List (List ℕ × List ℕ) → List ℕ → Forest → List ℕ
printed options names bytes document =
    let alone = context_alone options names bytes (ending_at options bytes (first_ending document))
    in
    let context = record alone { definitions = defined alone document } in
    let after = run context 0 (flatten document) (noticed bytes true document) beginning in
    laid_after context.ending after.text
    (section (record context { calls = after.calls }) after.footnotes)
