-- What stands in a link, where links may stand in links and where not; and none does where a
-- document has no link in a link.
use Rattle.md_safe.proofs.Insides.{is_blocks}
use Rattle.md_content.specs.Built.{Blocks, content_inside}
use Rattle.std.proofs.Common.{◌≡◌, ◌⊎◌, Bool, true, false, not, ◌&&◌, ◌||◌, cond, arith}
use Rattle.std.proofs.lemmas.Bool.{or_parts, or_left, or_right}
use Rattle.md_base.specs.declared.event.Name.{Name}
use Rattle.md_base.specs.declared.event.Name.TheVariants.{Image, Link}
use Rattle.md_base.specs.declared.event.Point.{Point}
use Rattle.md_base.specs.Is.{is as named}
use Rattle.md_base.specs.Tree.{Forest, Node}
use Rattle.md_base.specs.NameTests.{is_transparent}
use Rattle.md_meaning.specs.declared.surroundings.Surroundings.{Surroundings}
use Rattle.md_meaning.specs.Meaning.Inherited.{inside}
use Rattle.md_text.specs.declared.options.CompileOptions.{CompileOptions}
use Rattle.md_safe.specs.Contents.{Content, Phrasing, Linked}
use Rattle.md_safe.specs.Links.{prints_link, has_nested_link}
use Rattle.md_safe.specs.Placed.{place_of, place_inside}

-- spans without links
abbrev pub is_linked : Content → Bool
is_linked content = elim content [ Linked ↦ true | _ ↦ false ]

-- spans, with links or without
abbrev pub is_spans : Content → Bool
is_spans content = elim content [ Phrasing ↦ true | Linked ↦ true | _ ↦ false ]

abbrev pub without_links : Content → Content
without_links content = elim content [ Phrasing ↦ Linked | other ↦ other ]

-- to the grammar they are spans
abbrev pub with_links : Content → Content
with_links content = elim content [ Linked ↦ Phrasing | other ↦ other ]

-- the content of a link
abbrev pub in_link : Bool → Content
in_link nested = cond nested Phrasing Linked

-- the content of a node that isn't transparent
abbrev pub place_in : Bool → Content → Name → Content
place_in nested content name = elim name [
  | Link ↦ cond (is_linked content) Linked (in_link nested)
  | other ↦ cond (is_linked content) (without_links (place_of other)) (place_of other)
]

-- and in any node
abbrev pub inner_place : Bool → Content → Name → Content
inner_place nested content name = cond (is_transparent name) content (place_in nested content name)

pub inner-place-with : (nested : Bool) (content : Content) (name : Name) →
    with_links (inner_place nested content name) ≡ place_inside (with_links content) name
inner-place-with nested content name = grind arith

-- spans without links stand only in a link, where links don't nest
abbrev pub IsLinked : Bool → Content → Surroundings → Type 0
IsLinked nested content around =
    is_linked content ≡ true → (nested ≡ false) × (around.in_link ≡ true)

linked-place : (nested : Bool) (content : Content) (name : Name) →
    is_linked (place_in nested content name) ≡ true →
    (is_linked content ≡ true) ⊎ ((named Link name ≡ true) × (nested ≡ false))
linked-place nested content name h = grind arith

pub linked-inside : (nested : Bool) (options : CompileOptions) (loose : Bool) (content : Content)
    (name : Name) (around : Surroundings) → IsLinked nested content around →
    IsLinked nested (inner_place nested content name) (inside options loose name around)
linked-inside nested options loose content name around linked h =
    grind (arith, linked-place, or_left, or_right)

pub unnested-parts : (name : Name) (in_link : Bool) (start end : Point) (children rest : Forest) →
    has_nested_link in_link (Node name start end children rest) ≡ false → ((in_link && prints_link
    name || not (named Image name) && has_nested_link (named Link name || in_link) children)
    ≡ false) × (has_nested_link in_link rest ≡ false)
unnested-parts name in_link start end children rest h = or_parts _ _ h

pub unnested-inside :
    (options : CompileOptions) (loose : Bool) (name : Name) (around : Surroundings)
    (start end : Point)
    (children rest : Forest) → is_blocks (content_inside Blocks name) ≡ true →
    has_nested_link around.in_link (Node name start end children rest) ≡ false →
    has_nested_link (inside options loose name around).in_link children ≡ false
unnested-inside options loose name around start end children rest blocks h = grind arith

-- spans that aren't without links
pub unlinked-spans : (content : Content) → is_spans content ≡ true →
    (is_linked content ≡ true → content ≡ Phrasing) →
    content ≡ Phrasing
unlinked-spans content is h = grind arith

-- no link is printed where they are
pub unlinked-here :
    (nested : Bool) (content : Content) (name : Name) (around : Surroundings) (start end : Point)
    (children rest : Forest) → is_spans content ≡ true → prints_link name ≡ true →
    IsLinked nested content around →
    (nested ≡ false → has_nested_link around.in_link (Node name start end children rest) ≡ false) →
    content ≡ Phrasing
unlinked-here nested content name around start end children rest is prints linked unnested =
    grind arith
