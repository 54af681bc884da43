-- Whether events have a link in a link, decided event by event. No contract of a call for users
-- cites this.
use Rattle.std.specs.Prelude.{ℕ, zero, suc, Bool, true, false, ◌&&◌, ◌||◌, if◌then◌else◌, List, []}
use Rattle.std.specs.Prelude.{◌∷◌}
use Rattle.md_base.specs.declared.event.Event.{Event}
use Rattle.md_base.specs.declared.event.Kind.{Kind}
use Rattle.md_base.specs.declared.event.Kind.TheVariants.{Enter, Exit}
use Rattle.md_base.specs.declared.event.Name.{Name}
use Rattle.md_base.specs.declared.event.Name.TheVariants.{Image, Link}
use Rattle.md_base.specs.declared.event.Name.TheVariants.{AutolinkEmail, AutolinkProtocol}
use Rattle.md_base.specs.declared.event.Name.TheVariants.{GfmFootnoteCall}
use Rattle.md_safe.specs.Links.{prints_link}

abbrev pub is_entry : Kind → Bool
is_entry kind = elim kind [ Enter ↦ true | Exit ↦ false ]

abbrev pub is_link : Name → Bool
is_link name = elim name [ Link ↦ true | _ ↦ false ]

abbrev pub is_image : Name → Bool
is_image name = elim name [ Image ↦ true | _ ↦ false ]

-- a name prints a link, or is that of an image
abbrev pub bears_on_links : Name → Bool
bears_on_links name = elim name [
  | Link ↦ true
  | Image ↦ true
  | AutolinkEmail ↦ true
  | AutolinkProtocol ↦ true
  | GfmFootnoteCall ↦ true
  | _ ↦ false
]

abbrev pub is_none : ℕ → Bool
is_none zero = true
is_none (suc count) = false

abbrev pub one_less : ℕ → ℕ
one_less zero = zero
one_less (suc count) = count

-- in a link or not, and in so many images, an event begins a link in a link
abbrev pub is_nested : Bool → ℕ → Event → Bool
is_nested in_link images event =
    is_entry event.kind && (is_none images && (in_link && prints_link event.name))

-- whether the events after it are in a link, and in how many images
abbrev pub link_after : Bool → ℕ → Event → Bool
link_after in_link images event =
    if is_none images && is_link event.name then is_entry event.kind else in_link

abbrev pub images_after : ℕ → Event → ℕ
images_after images event =
    if is_image event.name
    then (if is_entry event.kind then suc images else one_less images) else images

-- one of some events begins a link in a link
abbrev pub nests : Bool → ℕ → List Event → Bool
nests in_link images [] = false
nests in_link images (event ∷ events) =
    is_nested in_link images event
    || nests (link_after in_link images event) (images_after images event) events
