-- How deep events nest, from the events alone: they needn't be a document.
use Rattle.std.specs.Prelude.{ℕ, ◌-◌, suc, max, List, [], ◌∷◌}
use Rattle.md_base.specs.declared.event.Event.{Event}
use Rattle.md_base.specs.declared.event.Kind.TheVariants.{Enter, Exit}
use Rattle.md_base.specs.Tree.{Forest, Empty, Node}

-- how many nodes are open after an event
abbrev pub opened_after : ℕ → Event → ℕ
opened_after opened event = elim event.kind [ Enter ↦ suc opened | Exit ↦ opened - 1 ]

-- the maximum number of nodes that are open at once, if so many are open before
abbrev pub deepest : ℕ → List Event → ℕ
deepest opened [] = opened
deepest opened (event ∷ events) = max opened (deepest (opened_after opened event) events)

-- the maximum number of nodes that are open at once
abbrev pub depth : List Event → ℕ
depth events = deepest 0 events

-- how deep nodes nest
abbrev pub height : Forest → ℕ
height Empty = 0
height (Node name start end children rest) = max (suc (height children)) (height rest)
