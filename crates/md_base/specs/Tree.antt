-- Trees of nodes, and the events that enter and exit their nodes.
use Rattle.std.specs.Prelude.{List, [], ◌∷◌, ◌++◌}
use Rattle.md_base.specs.declared.event.Point.{Point}
use Rattle.md_base.specs.declared.event.Event.{Event}
use Rattle.md_base.specs.declared.event.Name.{Name}
use Rattle.md_base.specs.declared.event.Kind.TheVariants.{Enter, Exit}

-- a list of nodes in sequence; a node has a name, a start, an end and children
pub data Forest : Type 0 where
  Empty : Forest
  Node : (name : Name) (start end : Point) (children rest : Forest) → Forest

-- the event that enters a node
abbrev pub entering : Name → Point → Event
entering name point = record { kind = Enter; name = name; point = point }

-- the event that exits a node
abbrev pub exiting : Name → Point → Event
exiting name point = record { kind = Exit; name = name; point = point }

-- the events of the nodes: each node's entering event, those of its children, its exiting event
abbrev pub flatten : Forest → List Event
flatten Empty = []
flatten (Node name start end children rest) =
    entering name start ∷ flatten children ++ exiting name end ∷ flatten rest
