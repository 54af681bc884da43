-- The input of the printer's steps at an event, by the event's index.
use Rattle.std.specs.Prelude.{◌≡◌, ℕ, Bool, true, false, List, Some, slice_get, IsTrue}
use Rattle.md_base.specs.declared.event.Event.{Event}
use Rattle.md_base.specs.declared.event.Name.{Name}
use Rattle.md_base.specs.declared.event.Name.TheVariants.{GfmFootnoteCall, Definition}
use Rattle.md_base.specs.declared.event.Name.TheVariants.{GfmFootnoteDefinition}
use Rattle.md_base.specs.Tree.{Forest, flatten}
use Rattle.md_tree.specs.Grammar.{Handed}
use Rattle.md_tree.specs.Texts.{EntersAt, ExitsAt}
use Rattle.md_steps.specs.Run.{Noticed, noticed}

-- the facts at the event at an index, in the document that the events flatten
abbrev pub IsNoticedAt : Handed → ℕ → Noticed → Type 0
IsNoticedAt given index one =
    (document : Forest) × (flatten document ≡ given.events)
    × (slice_get (noticed given.bytes true document) index ≡ Some one)

-- the event at an index exits a node
abbrev pub ExitsSome : List Event → ℕ → Type 0
ExitsSome events index = (name : Name) × ExitsAt events index name

-- it enters a node whose name passes a test
abbrev pub EntersOf : (Name → Bool) → List Event → ℕ → Type 0
EntersOf is events index = (name : Name) × EntersAt events index name × IsTrue (is name)

-- a node of this name has a label by which it refers to another, or is referred to, in each
-- document
abbrev pub is_labelled : Name → Bool
is_labelled name = elim name [
  | GfmFootnoteCall ↦ true
  | Definition ↦ true
  | GfmFootnoteDefinition ↦ true
  | _ ↦ false
]
