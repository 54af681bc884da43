-- The nodes of a document by the index of the event that enters them.
use Rattle.std.specs.Prelude.{◌≡◌, ℕ, Option, Some, None, List, [], ◌∷◌, ◌++◌, slice_get}
use Rattle.md_base.specs.Tree.{Forest, Empty, Node, flatten}
use Rattle.md_tree.specs.Grammar.{Handed}

-- for each event of the nodes, in order: at an entry the node's children, nothing at an exit
abbrev pub children_of : Forest → List (Option Forest)
children_of Empty = []
children_of (Node name start end children rest) =
    Some children ∷ children_of children ++ None ∷ children_of rest

-- the event at an index enters a node with these children, in the document that the events flatten
abbrev pub IsEnteredAt : Handed → ℕ → Forest → Type 0
IsEnteredAt given index children =
    (forest : Forest) × (flatten forest ≡ given.events)
    × (slice_get (children_of forest) index ≡ Some (Some children))

-- it enters a node
abbrev pub EntersNode : Handed → ℕ → Type 0
EntersNode given index = (children : Forest) × IsEnteredAt given index children
