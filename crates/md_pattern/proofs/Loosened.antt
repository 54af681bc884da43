-- Looseness that looks ahead to a blank line ending, as the pass computes it, equals looseness that
-- looks back from the blank line ending.
use Rattle.std.proofs.Common.{◌≡◌, Bool, true, false, not, ◌&&◌, ◌||◌, arith}
use Rattle.std.specs.Prelude.{if◌then◌else◌}
use Rattle.md_base.specs.declared.event.Name.{Name}
use Rattle.md_base.specs.declared.event.Name.TheVariants.{ListItem, ListItemPrefix, SpaceOrTab}
use Rattle.md_base.specs.Is.{is}
use Rattle.md_base.specs.Tree.{Forest, Empty, Node}
use Rattle.md_base.specs.Children.{is_empty}
use Rattle.md_pattern.specs.Looseness.{is_bare, ends_bare, has_parting_blank}
use Rattle.md_pattern.specs.Looseness.{is_loose_without_items, has_inner_blank, is_loose_item}
use Rattle.md_pattern.specs.Looseness.{has_loose_item}
use Rattle.md_pattern.specs.Blanks as old
use Rattle.md_pattern.specs.Blanks.{begins_blank, begins_space_blank}

-- what bare ends are after others
abbrev ended : Bool → Bool → Forest → Bool
ended last but_space Empty = but_space
ended last but_space (Node name start end children rest) =
    if is SpaceOrTab name && is_empty rest then last
    else old.ends_bare (Node name start end children rest)

ended-same : (last but_space : Bool) (forest : Forest) →
    ends_bare last but_space forest ≡ ended last but_space forest
ended-same last but_space Empty = grind arith
ended-same last but_space (Node name start end children Empty) = grind arith
ended-same last but_space (Node name start end children (Node next begin stop inner rest)) =
    grind (
      arith,
      ended-same (is_bare name children) (if is SpaceOrTab name then last else is_bare
          name children) (Node next begin stop inner rest),
    )

-- a space is not bare
space_bare : (name : Name) (children : Forest) → is SpaceOrTab name ≡ true →
    is_bare name children ≡ false
space_bare name children h = grind arith

bare-same : (forest : Forest) → old.ends_bare forest ≡ ends_bare false false forest
bare-same forest = grind (arith, space_bare, ended-same)

-- lists
parting-same : (excused : Bool) (forest : Forest) →
    begins_blank forest && not excused || old.has_parting_blank forest
    ≡ has_parting_blank excused forest
parting-same excused Empty = grind (arith, bare-same)
parting-same excused (Node name start end children rest) =
    grind (arith, bare-same, parting-same (is ListItem name && ends_bare false false children) rest)

pub without-same : (children : Forest) →
    old.is_loose_without_items children ≡ is_loose_without_items children
without-same children = let parting = parting-same false children in grind (arith, parting)

-- items
arranged : (space blank later last prefix : Bool) (others : Bool) →
    (space && blank) && not last || (not prefix && (blank && not space || later) || others)
    ≡ blank && not (if space then last else prefix) || (later && not prefix || others)
arranged space blank later last prefix others = grind arith

inner-same : (last but_space : Bool) (forest : Forest) →
    begins_blank forest && not but_space
    || (begins_space_blank forest && not last || old.has_inner_blank forest)
    ≡ has_inner_blank last but_space forest
inner-same last but_space Empty = grind (arith, arranged)
inner-same last but_space (Node name start end children rest) =
    grind (
      arith,
      arranged,
      inner-same (is ListItemPrefix name) (if is SpaceOrTab name then last
          else is ListItemPrefix name) rest,
    )

pub item-same : (children : Forest) → old.is_loose_item children ≡ is_loose_item children
item-same children = let inner = inner-same false false children in grind (arith, inner)

pub items-same : (children : Forest) → old.has_loose_item children ≡ has_loose_item children
items-same Empty = grind (arith, item-same)
items-same (Node name start end children rest) = grind (arith, item-same, items-same rest)
