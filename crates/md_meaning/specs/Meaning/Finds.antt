-- Positions in a tree: a heading's first mark, a list's number and the first line ending.
use Rattle.std.specs.Prelude.{Option, Some, None, unwrap_or, if◌then◌else◌}
use Rattle.md_base.specs.declared.event.Name.{Name}
use Rattle.md_base.specs.declared.event.Name.TheVariants.{ListItem, ListItemPrefix, ListItemValue}
use Rattle.md_base.specs.declared.event.Position.{Position}
use Rattle.md_base.specs.Is.{is}
use Rattle.md_base.specs.Tree.{Forest, Empty, Node}
use Rattle.md_base.specs.Children.{or_else, first_on_spine}
use Rattle.md_base.specs.NameTests.{is_line_ending}
use Rattle.md_tree.specs.Rules.{place}

-- the position of the first node of a name on the spine
abbrev pub first_named : Name → Forest → Option Position
first_named name children = first_on_spine (is name) (λ start end inner. place start end) children

-- the result of a function for the children of the first such node
abbrev pub in_first_named : Name → (Forest → Option Position) → Forest → Option Position
in_first_named name find children =
    unwrap_or (first_on_spine (is name) (λ start end inner. find inner) children) None

-- the number of a list's first item, in its prefix
abbrev pub number_in_list : Forest → Option Position
number_in_list children =
    in_first_named ListItem (in_first_named ListItemPrefix (first_named ListItemValue)) children

-- the position of the line ending, blank or not, that exits first
abbrev pub first_ending : Forest → Option Position
first_ending Empty = None
first_ending (Node name start end children rest) = or_else (first_ending children)
    (or_else (if is_line_ending name then Some (place start end) else None) (first_ending rest))
