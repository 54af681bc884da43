-- What some nodes and those after them contain: the target of a link or an image.
use Rattle.std.proofs.Common.{◌≡◌, Bool, true, false, Option, refl, ap, sym, ◌∙◌, arith}
use Rattle.md_base.specs.declared.event.Name.{Name}
use Rattle.md_base.specs.Tree.{Forest}
use Rattle.md_base.specs.Children.{or_else}
use Rattle.md_meaning.specs.Meaning.At.{Target, Found}
use Rattle.md_steps.specs.Content.{Content, Strings, BeforeLabel, AfterLabel, Nothing, Childless}
use Rattle.md_steps.specs.Content.{content_after_node}
use Rattle.md_steps.specs.Claim.{TargetAfter, ResourceAfter}
use Rattle.md_steps.proofs.Past.{or_else-assoc, unwrap-else}
use Rattle.md_steps.proofs.Staying.{node-same, past-as, node-stays}

abbrev is_media : Content → Bool
is_media c = elim c [ BeforeLabel ↦ true | AfterLabel ↦ true | _ ↦ false ]

media-after : (c : Content) (found : Found) (one other : Option Target) → is_media c ≡ true →
    ResourceAfter c found one other → other ≡ or_else found.resource one
media-after c found one other h k = grind arith

-- what two findings give together
abbrev pub both_found : Found → Found → Found
both_found one two = record {
  heading = or_else two.heading one.heading;
  destination = or_else two.destination one.destination;
  title = or_else two.title one.title;
  resource = or_else two.resource one.resource;
}

pub target-both : (c : Content) (name : Name) (children : Forest) (one two : Found)
    (a b d : Target) →
    TargetAfter c one a b → TargetAfter (content_after_node c name children) two b d →
    TargetAfter c (both_found one two) a d
target-both c name children one two a b d k l =
    grind (arith, node-stays, unwrap-else, or_else-assoc)

pub resource-both : (c : Content) (name : Name) (children : Forest) (one two : Found)
    (a b d : Option Target) →
    ResourceAfter c one a b → ResourceAfter (content_after_node c name children) two b d →
    ResourceAfter c (both_found one two) a d
resource-both Strings name children one two a b d k l = grind (arith, node-stays)
resource-both Nothing name children one two a b d k l = grind (arith, node-stays)
resource-both Childless name children one two a b d k l = grind (arith, node-stays)
resource-both BeforeLabel name children one two a b d k l =
    media-after (content_after_node BeforeLabel name children) two b d
    (node-same is_media (past-as is_media refl) BeforeLabel name children) l
    ∙ ap (λ r. or_else two.resource r) k ∙ sym (or_else-assoc two.resource one.resource a)
resource-both AfterLabel name children one two a b d k l =
    media-after (content_after_node AfterLabel name children) two b d
    (node-same is_media (past-as is_media refl) AfterLabel name children) l
    ∙ ap (λ r. or_else two.resource r) k ∙ sym (or_else-assoc two.resource one.resource a)
resource-both _ name children one two a b d k l = tt
