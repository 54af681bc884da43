-- The indices of a node's two events, of its children's, and of the definitions.
use Rattle.std.specs.Prelude.{ℕ, suc, if◌then◌else◌, Option, Some, None, List, [], ◌∷◌, ◌++◌}
use Rattle.md_base.specs.Tree.{Forest, Empty, Node}
use Rattle.md_base.specs.NameTests.{contributes, is_link_definition}
use Rattle.md_base.specs.Children.{or_else}

-- the index after the events of some nodes, the first of which has an index
abbrev pub index_after : ℕ → Forest → ℕ
index_after index Empty = index
index_after index (Node name start end children rest) =
    index_after (suc (index_after (suc index) children)) rest

-- for each event of the nodes, in order, the index of the other event of its node; the first has an
-- index
abbrev pub partners_of : ℕ → Forest → List ℕ
partners_of index Empty = []
partners_of index (Node name start end children rest) =
    index_after (suc index) children ∷ partners_of (suc index) children ++ index
    ∷ partners_of (suc (index_after (suc index) children)) rest

-- the index of the event that enters the last node that contributes to an item; the first event has
-- an index
abbrev pub last_contributing_at : ℕ → Forest → Option ℕ
last_contributing_at index Empty = None
last_contributing_at index (Node name start end children rest) =
    or_else (last_contributing_at (suc (index_after (suc index) children)) rest)
    (if contributes name then Some index else None)

-- the indices of the events that enter definitions among some nodes, in the order of their exits;
-- the first event has an index
abbrev pub definition_entries : ℕ → Forest → List ℕ
definition_entries index Empty = []
definition_entries index (Node name start end children rest) =
    definition_entries (suc index) children
    ++ ((if is_link_definition name then index ∷ [] else [])
    ++ definition_entries (suc (index_after (suc index) children)) rest)
