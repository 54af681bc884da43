-- The definitions for the law on what work counts: how much of a document is read, by its nodes.
use Rattle.std.specs.Prelude.{ℕ, ◌+◌, ◌-◌, ◌≤◌, if◌then◌else◌, List, [], ◌∷◌}
use Rattle.md_base.specs.declared.event.Event.{Event}
use Rattle.md_base.specs.Tree.{Forest, Empty, Node}
use Rattle.md_length.specs.Work.{is_read}

-- the sum of the lengths of the nodes that are read
abbrev pub lengths : Forest → ℕ
lengths Empty = 0
lengths (Node name start end children rest) =
    (if is_read name then end.index - start.index else 0) + lengths children + lengths rest

-- no event starts before the previous one, nor the first one before an index
abbrev pub GoesForward : ℕ → List Event → Type 0
GoesForward index [] = Unit {0}
GoesForward index (event ∷ events) =
    (index ≤ event.point.index) × GoesForward event.point.index events
