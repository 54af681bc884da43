-- What nodes may print, by their number, by the lengths of what is read, and by their events.
use Rattle.std.proofs.Common.{◌≡◌, ℕ, ◌+◌, ◌*◌, ◌≤◌, List, length, refl, arith}
use Rattle.std.proofs.lemmas.List.{length-append}
use Rattle.md_base.specs.declared.event.Event.{Event}
use Rattle.md_base.specs.Tree.{Forest, Empty, Node, flatten}
use Rattle.md_length.specs.Costs.{unit, nodes, cost}
use Rattle.md_length.specs.Lengths.{lengths}
use Rattle.md_length.specs.Longest.{longest}
use Rattle.md_length.specs.Work.{read_length}
use Rattle.md_length.proofs.Lengths.{read-no_less}

pub cost-split : (names : List (List ℕ × List ℕ)) (forest : Forest) →
    cost names forest ≡ nodes forest * unit names + 42 * lengths forest
cost-split names Empty = omega arith
cost-split names (Node name start end children rest) =
    omega (arith, cost-split names children, cost-split names rest)

-- half of what a node may print: it has two events
abbrev pub half_unit : List (List ℕ × List ℕ) → ℕ
half_unit names = 128 + 21 * longest names

pub events-nodes : (forest : Forest) → length (flatten forest) ≡ 2 * nodes forest
events-nodes Empty = refl
events-nodes (Node name start end children rest) =
    grind (arith, length-append, events-nodes children, events-nodes rest)

pub nodes-units : (names : List (List ℕ × List ℕ)) (forest : Forest) →
    nodes forest * unit names ≡ half_unit names * length (flatten forest)
nodes-units names forest = rw (events-nodes forest) (omega arith)

-- what is read in some events, and their number
abbrev pub inner_length : List Event → ℕ
inner_length events = read_length events + length events

pub cost-short : (names : List (List ℕ × List ℕ)) (forest : Forest) →
    cost names forest ≤ half_unit names * inner_length (flatten forest)
cost-short names forest =
    omega (arith, cost-split names forest, nodes-units names forest, read-no_less forest)
