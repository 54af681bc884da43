-- The events of a document nest just as deep as its nodes: one induction over the nodes.
use Rattle.std.proofs.Common.{◌≡◌, ℕ, ◌+◌, ◌≤◌, suc, max, List, [], ◌∷◌, ◌++◌, ap, append_assoc}
use Rattle.std.proofs.Common.{arith}
use Rattle.std.proofs.lemmas.List.{append-nil}
use Rattle.md_base.specs.declared.event.Event.{Event}
use Rattle.md_base.specs.Tree.{Forest, Empty, Node, flatten, exiting}
use Rattle.md_depth.specs.Depth.{opened_after, deepest, depth, height}

-- what is open is open at once
open_counts : (opened : ℕ) (events : List Event) → opened ≤ deepest opened events
open_counts opened [] = omega arith
open_counts opened (event ∷ events) = omega arith

-- how many are open at most, counted on over one event
pub one-more : (most opened : ℕ) (event : Event) (following : List Event) → opened ≤ most →
    max (max most (opened_after opened event)) (deepest (opened_after opened event) following)
    ≡ max most (deepest opened (event ∷ following))
one-more most opened event following few = grind (arith, open_counts)

-- nodes among events
nests : (nodes : Forest) (opened : ℕ) (events : List Event) →
    deepest opened (flatten nodes ++ events) ≡ max (opened + height nodes) (deepest opened events)
nests Empty opened events = omega (arith, open_counts)
nests (Node name start end children rest) opened events =
    grind (
      arith,
      append_assoc,
      open_counts,
      nests children (suc opened) (exiting name end ∷ (flatten rest ++ events)),
      nests rest opened events,
    )

pub events-nest : (document : Forest) → depth (flatten document) ≡ height document
events-nest document = omega (arith, nests document 0 [], ap depth (append-nil (flatten document)))
