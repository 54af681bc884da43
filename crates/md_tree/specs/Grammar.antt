-- The grammar of events over a document's bytes and a table of names.
use Rattle.std.specs.Prelude.{◌≡◌, ℕ, None, List}
use Rattle.std.specs.List.{All}
use Rattle.std.specs.Borrow.{Bor}
use Rattle.md_base.specs.Reference.{name_table}
use Rattle.md_base.specs.declared.event.Event.{Event}
use Rattle.md_pattern.specs.declared.kinds.Role.TheVariants as role
use Rattle.md_base.specs.Tree.{Forest, flatten}
use Rattle.md_pattern.specs.Shape.{IsShaped}
use Rattle.md_tree.specs.Rules.{MeetRules}
use Rattle.md_tree.specs.Mentions.{mentions_of, IsResolved}

-- a document matches the grammar over these bytes and names
pub record IsGrammatical (bytes : List ℕ) (names : List (List ℕ × List ℕ))
    (forest : Forest) : Type 0 where
  pub shape : IsShaped forest
  pub rules : MeetRules bytes names forest role.Flow None
  pub resolved : All (IsResolved bytes (mentions_of forest)) (mentions_of forest)

-- the input of a check: events, the document's bytes, the names of character references with their
-- texts
pub record Handed : Type 0 where
  pub events : List Event
  pub bytes : List ℕ
  pub names : List (List ℕ × List ℕ)

-- the input as a record
abbrev pub input_of : List Event → List ℕ → List (List ℕ × List ℕ) → Handed
input_of events bytes names = record { events = events; bytes = bytes; names = names }

-- the input as a record, from a slice of names with their texts
abbrev pub handed : List Event → List ℕ → List (Bor (List ℕ) × Bor (List ℕ)) → Handed
handed events bytes names = input_of events bytes (name_table names)

-- the events are the flattening of this document of the grammar over the bytes and names
pub record IsReadAs (given : Handed) (forest : Forest) : Type 0 where
  pub flattened : flatten forest ≡ given.events
  pub grammatical : IsGrammatical given.bytes given.names forest

-- the events are the flattening of a document of the grammar over the bytes and names
abbrev pub IsChecked : Handed → Type 0
IsChecked given = (forest : Forest) × IsReadAs given forest
