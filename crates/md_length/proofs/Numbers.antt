-- The numbers of lists are no longer than what is read, and the nodes.
use Rattle.std.proofs.Common.{ℕ, ◌+◌, ◌≤◌, List, length, arith, Option}
use Rattle.std.specs.Option.{option_map_or}
use Rattle.md_base.specs.declared.event.Name.TheVariants.{ListItemPrefix, ListItemValue}
use Rattle.md_base.specs.declared.event.Position.{Position}
use Rattle.md_base.specs.Tree.{Forest, Empty, Node}
use Rattle.md_tree.specs.Rules.{place}
use Rattle.md_meaning.specs.Meaning.At.{text_in}
use Rattle.md_meaning.specs.Meaning.Finds.{first_named, in_first_named}
use Rattle.md_length.specs.Costs.{nodes}
use Rattle.md_length.specs.Lengths.{lengths}
use Rattle.md_length.specs.Uses.{number_length, numbers}
use Rattle.md_length.proofs.Places.{text-short}

abbrev long : List ℕ → Option Position → ℕ
long bytes found = option_map_or (λ place. length (text_in bytes place)) found 0

-- a number that stands in some nodes, in their prefixes, in their items
abbrev value : List ℕ → Forest → ℕ
value bytes forest = long bytes (first_named ListItemValue forest)

abbrev in_prefix : List ℕ → Forest → ℕ
in_prefix bytes forest = long bytes (in_first_named ListItemPrefix (first_named ListItemValue)
    forest)

numbers-all : (bytes : List ℕ) (forest : Forest) →
    numbers bytes forest + value bytes forest + in_prefix bytes forest
    + number_length bytes forest ≤ lengths forest + nodes forest
numbers-all bytes Empty = omega arith
numbers-all bytes (Node name start end children rest) =
    grind (arith, text-short, numbers-all bytes children, numbers-all bytes rest)

pub numbers-short : (bytes : List ℕ) (forest : Forest) →
    numbers bytes forest ≤ lengths forest + nodes forest
numbers-short bytes forest = omega (arith, numbers-all bytes forest)
