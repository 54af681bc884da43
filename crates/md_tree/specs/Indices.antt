-- The indices of a document's events: the partner of an event, and the definitions.
use Rattle.std.specs.Prelude.{◌≡◌, ℕ, Option, List, slice_get}
use Rattle.md_base.specs.Tree.{Forest, flatten}
use Rattle.md_pattern.specs.Partners.{partners_of, definition_entries}
use Rattle.md_tree.specs.Grammar.{Handed}

-- the index of the other event of a node, in the document that the events flatten; there is none
-- past the end
abbrev pub IsPartnerAt : Handed → ℕ → Option ℕ → Type 0
IsPartnerAt given index partner =
    (forest : Forest) × (flatten forest ≡ given.events)
    × (partner ≡ slice_get (partners_of 0 forest) index)

-- these indices enter the definitions, in the document that the events flatten
abbrev pub AreDefinitions : Handed → List ℕ → Type 0
AreDefinitions given indices =
    (forest : Forest) → flatten forest ≡ given.events → indices ≡ definition_entries 0 forest
