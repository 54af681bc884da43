-- Which documents have a link in a link.
use Rattle.std.specs.Prelude.{Bool, true, false, not, ◌&&◌, ◌||◌}
use Rattle.md_base.specs.declared.event.Name.{Name}
use Rattle.md_base.specs.declared.event.Name.TheVariants.{AutolinkEmail, AutolinkProtocol}
use Rattle.md_base.specs.declared.event.Name.TheVariants.{GfmFootnoteCall, Image, Link}
use Rattle.md_base.specs.Is.{is}
use Rattle.md_base.specs.Tree.{Forest, Empty, Node}

-- a name that prints a link except in images; a literal autolink in a link is a text
abbrev pub prints_link : Name → Bool
prints_link name = elim name [
  | Link ↦ true
  | AutolinkEmail ↦ true
  | AutolinkProtocol ↦ true
  | GfmFootnoteCall ↦ true
  | _ ↦ false
]

-- some nodes, in a link or not, contain a link in a link, neither of which is in an image
abbrev pub has_nested_link : Bool → Forest → Bool
has_nested_link in_link Empty = false
has_nested_link in_link (Node name start end children rest) =
    in_link && prints_link name
    || not (is Image name) && has_nested_link (is Link name || in_link) children
    || has_nested_link in_link rest
