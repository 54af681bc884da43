-- The texts of a document's nodes, by the index of the event that exits each.
use Rattle.std.specs.Prelude.{◌≡◌, ℕ, Bool, true, false, Option, Some, None, List, [], ◌∷◌, ◌++◌}
use Rattle.std.specs.Prelude.{slice_get, IsTrue}
use Rattle.md_base.specs.declared.event.Position.{Position}
use Rattle.md_base.specs.declared.event.Name.{Name}
use Rattle.md_base.specs.declared.event.Kind.{Kind}
use Rattle.md_base.specs.declared.event.Kind.TheVariants.{Enter, Exit}
use Rattle.md_base.specs.declared.event.Event.{Event}
use Rattle.md_base.specs.Place.{text_between, label_between}
use Rattle.md_pattern.specs.declared.kinds.Reading.{Reading}
use Rattle.md_pattern.specs.declared.kinds.Reading.TheVariants as reading
use Rattle.md_pattern.specs.declared.kinds.Standing.{Standing}
use Rattle.md_pattern.specs.declared.kinds.Standing.TheVariants.{Solid}
use Rattle.md_base.specs.Tree.{Forest, Empty, Node, flatten}
use Rattle.md_pattern.specs.Standing.{standing_of}
use Rattle.md_tree.specs.Rules.{place}
use Rattle.md_tree.specs.Grammar.{Handed}

-- the event at an index is of this kind and name
abbrev pub IsEventAt : List Event → ℕ → Kind → Name → Type 0
IsEventAt events index kind name =
    (event : Event) × (slice_get events index ≡ Some event) × (event.kind ≡ kind)
    × (event.name ≡ name)

-- the event at an index enters, or exits, a node of this name
abbrev pub EntersAt : List Event → ℕ → Name → Type 0
EntersAt events index name = IsEventAt events index Enter name

abbrev pub ExitsAt : List Event → ℕ → Name → Type 0
ExitsAt events index name = IsEventAt events index Exit name

-- for each event of the nodes, in order: nothing at an entry, the position of the node at an exit
abbrev pub positions_of : Forest → List (Option Position)
positions_of Empty = []
positions_of (Node name start end children rest) =
    None ∷ positions_of children ++ Some (place start end) ∷ positions_of rest

-- what is read of a node is its text
abbrev pub is_text : Reading → Bool
is_text reading.Text = true
is_text reading.LineEnding = true
is_text reading.Number = true
is_text reading.Value = true
is_text _ = false

-- what is read of a node is the identifier of a node that contains it
abbrev pub is_identifier : Reading → Bool
is_identifier reading.Identifier = true
is_identifier _ = false

-- a name whose reading passes a test
abbrev pub has_reading : (Reading → Bool) → Standing → Bool
has_reading is (Solid symbol usual reading) = is reading
has_reading is _ = false

-- a name whose nodes' text is read, and one whose nodes have an identifier
abbrev pub is_text_name : Name → Bool
is_text_name name = has_reading is_text (standing_of name)

abbrev pub is_identifier_name : Name → Bool
is_identifier_name name = has_reading is_identifier (standing_of name)

-- the event at an index exits a node whose text is read, or one that has an identifier
abbrev pub ExitsText : List Event → ℕ → Type 0
ExitsText events index = (name : Name) × ExitsAt events index name × IsTrue (is_text_name name)

abbrev pub ExitsIdentifier : List Event → ℕ → Type 0
ExitsIdentifier events index =
    (name : Name) × ExitsAt events index name × IsTrue (is_identifier_name name)

-- the text of the node that ends at an index, in the document that the events flatten
abbrev pub IsTextAt : Handed → ℕ → List ℕ → Type 0
IsTextAt given index text =
    (forest : Forest) (position : Position) → flatten forest ≡ given.events →
    slice_get (positions_of forest) index ≡ Some (Some position) →
    text_between given.bytes position.start position.end ≡ Some text

-- the same for the text between its indices
abbrev pub IsIdentifierAt : Handed → ℕ → List ℕ → Type 0
IsIdentifierAt given index text =
    (forest : Forest) (position : Position) → flatten forest ≡ given.events →
    slice_get (positions_of forest) index ≡ Some (Some position) →
    label_between given.bytes position.start position.end ≡ Some text
