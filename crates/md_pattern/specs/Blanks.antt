-- Which lists and items are loose, looking ahead to a blank line ending. Only proofs use it: the
-- pass reads the nodes before a blank line ending first.
use Rattle.std.specs.Prelude.{Bool, true, false, not, ◌&&◌, ◌||◌, if◌then◌else◌}
use Rattle.md_base.specs.Tree.{Forest, Empty, Node}
use Rattle.md_base.specs.declared.event.Name.TheVariants.{BlankLineEnding, ListItem, ListItemPrefix}
use Rattle.md_base.specs.declared.event.Name.TheVariants.{SpaceOrTab}
use Rattle.md_base.specs.Is.{is}
use Rattle.md_base.specs.Children.{is_empty}
use Rattle.md_pattern.specs.Looseness.{is_bare}

-- the first child is a blank line ending
abbrev pub begins_blank : Forest → Bool
begins_blank nodes = elim nodes [ Empty ↦ false | Node name _ _ _ _ ↦ is BlankLineEnding name ]

-- a space or tab, and after it a blank line ending, come first
abbrev pub begins_space_blank : Forest → Bool
begins_space_blank nodes =
    elim nodes [ Empty ↦ false | Node name _ _ _ rest ↦ is SpaceOrTab name && begins_blank rest ]

-- there is nothing but at most one space or tab
abbrev pub is_end : Forest → Bool
is_end nodes =
    elim nodes [ Empty ↦ true | Node name _ _ _ rest ↦ is SpaceOrTab name && is_empty rest ]

-- the last child, ignoring a space or tab after it, is bare
abbrev pub ends_bare : Forest → Bool
ends_bare Empty = false
ends_bare (Node name start end children rest) =
    if is_end rest then is_bare name children else ends_bare rest

-- a blank line ending follows a child that isn't a bare item
abbrev pub has_parting_blank : Forest → Bool
has_parting_blank Empty = false
has_parting_blank (Node name start end children rest) =
    begins_blank rest && not (is ListItem name && ends_bare children) || has_parting_blank rest

-- a list with these children is loose, ignoring its items
abbrev pub is_loose_without_items : Forest → Bool
is_loose_without_items children = begins_blank children || has_parting_blank children

-- a blank line ending follows a child that isn't an item's prefix, ignoring a space or tab between
-- them
abbrev pub has_inner_blank : Forest → Bool
has_inner_blank Empty = false
has_inner_blank (Node name start end children rest) = not (is ListItemPrefix name)
    && (begins_blank rest && not (is SpaceOrTab name) || begins_space_blank rest)
    || has_inner_blank rest

-- an item with these children is loose
abbrev pub is_loose_item : Forest → Bool
is_loose_item children =
    begins_blank children || begins_space_blank children || has_inner_blank children

-- a child is a loose item
abbrev pub has_loose_item : Forest → Bool
has_loose_item Empty = false
has_loose_item (Node name start end children rest) =
    is ListItem name && is_loose_item children || has_loose_item rest

-- a list with these children is loose
abbrev pub is_loose : Forest → Bool
is_loose children = (begins_blank children || has_parting_blank children) || has_loose_item children
