-- Which lists and items are loose, by their direct children.
use Rattle.std.specs.Prelude.{Bool, false, not, ◌&&◌, ◌||◌, if◌then◌else◌}
use Rattle.std.specs.Option.{option_map_or}
use Rattle.md_base.specs.declared.event.Name.{Name}
use Rattle.md_base.specs.declared.event.Name.TheVariants as name_variants
use name_variants.{BlankLineEnding, BlockQuote, BlockQuotePrefix, ListItem, ListItemPrefix}
use name_variants.{SpaceOrTab}
use Rattle.md_base.specs.Is.{is}
use Rattle.md_base.specs.Tree.{Forest, Empty, Node}
use Rattle.md_base.specs.Children.{last_name}

-- nothing follows the marker: an item's prefix, or a block quote that ends in its prefix
abbrev pub is_bare : Name → Forest → Bool
is_bare name children = is ListItemPrefix name
    || is BlockQuote name && option_map_or (is BlockQuotePrefix) (last_name children) false

-- the last of some nodes is bare, ignoring one space or tab after it; `last` says so of the
-- previous nodes without such a space, `but_space` with one
abbrev pub ends_bare : Bool → Bool → Forest → Bool
ends_bare last but_space Empty = but_space
ends_bare last but_space (Node name start end children rest) =
    ends_bare (is_bare name children)
    (if is SpaceOrTab name then last else is_bare name children) rest

-- a blank line ending is first, or directly follows a node that isn't a bare item; `excused` says
-- that the previous node is such an item
abbrev pub has_parting_blank : Bool → Forest → Bool
has_parting_blank excused Empty = false
has_parting_blank excused (Node name start end children rest) =
    is BlankLineEnding name && not excused
    || has_parting_blank (is ListItem name && ends_bare false false children) rest

-- a list with these children is loose, ignoring its items
abbrev pub is_loose_without_items : Forest → Bool
is_loose_without_items children = has_parting_blank false children

-- a blank line ending is first, or follows a node that isn't an item's prefix, ignoring one space
-- or tab between them; `last` and `but_space` say that the previous nodes end in such a prefix
abbrev pub has_inner_blank : Bool → Bool → Forest → Bool
has_inner_blank last but_space Empty = false
has_inner_blank last but_space (Node name start end children rest) =
    is BlankLineEnding name && not but_space || has_inner_blank (is ListItemPrefix name)
    (if is SpaceOrTab name then last else is ListItemPrefix name) rest

-- an item with these children is loose
abbrev pub is_loose_item : Forest → Bool
is_loose_item children = has_inner_blank false false children

-- a child is a loose item
abbrev pub has_loose_item : Forest → Bool
has_loose_item Empty = false
has_loose_item (Node name start end children rest) =
    is ListItem name && is_loose_item children || has_loose_item rest

-- a list with these children is loose
abbrev pub is_loose : Forest → Bool
is_loose children = has_parting_blank false children || has_loose_item children
