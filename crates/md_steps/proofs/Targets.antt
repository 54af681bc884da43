-- The target of a node at its exit: the target so far, and the resource after a label.
use Rattle.std.proofs.Common.{arith, ◌≡◌, ℕ, true, false, ◌||◌, List, Option, None, refl, unwrap_or}
use Rattle.std.specs.Prelude.{if◌then◌else◌}
use Rattle.md_base.specs.declared.event.Name.{Name}
use Rattle.md_base.specs.declared.event.Name.TheVariants as name_variants
use name_variants.{Label}
use Rattle.std.proofs.lemmas.Bool.{cond-false, or_from}
use Rattle.md_base.specs.Children.{or_else}
use Rattle.md_base.specs.Tree.{Forest}
use Rattle.md_base.specs.NameTests.{is_transparent, is_label}
use Rattle.md_meaning.specs.Meaning.At.{Target, At, Found, target_in}
use Rattle.md_meaning.specs.Meaning.Nodes.{found_at}
use Rattle.md_steps.specs.Content.{Content, Sources, is_source, is_allowed, content_inside}
use Rattle.md_steps.specs.Content.{content_after, content_after_node}
use Rattle.md_steps.specs.Steps.{target_after, resource_after, nowhere, begins_target, is_labelled}
use Rattle.md_steps.specs.Claim.{KnowsResource, TargetAfter, ResourceAfter}
use Rattle.md_steps.proofs.Standing.{is_set_aside, Facts, keeps_target, picked}

pub kept-target : (c : Content) (found : Found) (one other : Target) → keeps_target c ≡ true →
    TargetAfter c found one other → other ≡ one
kept-target c found one other h k = grind arith

pub kept-resource : (c : Content) (found : Found) (one other : Option Target) →
    keeps_target c ≡ true →
    ResourceAfter c found one other → other ≡ one
kept-resource c found one other h k = grind arith

stays-told : (name : Name) (text : List ℕ) (target : Target) (resource : Option Target) →
    ((if begins_target name || is_set_aside name then target else target_after name text target)
    ≡ target) × ((if begins_target name || is_label name then resource
    else resource_after name target resource) ≡ resource)
stays-told Label text target resource = (refl, refl)
stays-told _ text target resource = (refl, refl)

-- what is read of the node's captured text
abbrev Reads : Name → List ℕ → List ℕ → Type 0
Reads name inner text = is_set_aside name ≡ true → inner ≡ text

-- the target after a source, by the text that was read of it
abbrev target_found : At → Name → List ℕ → Target → Target
target_found at name text state = record {
  destination = unwrap_or (found_at at name text).destination state.destination;
  title = or_else (found_at at name text).title state.title;
}

source-found : (name : Name) (at : At) (inner text : List ℕ) (state : Target) →
    (if is_source name
    then target_after name (if is_set_aside name then text else inner) state
    else target_found at name text state) ≡ target_found at name text state
source-found Label at inner text state = refl
source-found _ at inner text state = refl

target-solid : (c : Content) (name : Name) (at : At) (inner text : List ℕ) (found : Found)
    (state target : Target) →
    Facts c name → is_allowed c name ≡ true → is_transparent name ≡ false → Reads name inner text →
    TargetAfter (content_inside c name) found
    (if begins_target name then nowhere else state) target →
    TargetAfter c (found_at at name text) state (target_after name inner target)
target-solid c name at inner text found state target facts h solid reads k =
    grind (arith, kept-target, cond-false, or_from, stays-told, picked, source-found)

pub target-known :
    (c : Content) (name : Name) (at : At) (inner text : List ℕ) (state target : Target) →
    Facts c name → is_allowed c name ≡ true → Reads name inner text →
    TargetAfter (content_inside c name) at.found
    (if begins_target name then nowhere else state) target →
    TargetAfter c (found_at at name text) state (target_after name inner target)
target-known c name at inner text state target facts h reads k = grind (arith, target-solid)

-- the target that a resource gathers
target-gathered : (found : Found) (target : Target) → TargetAfter Sources found nowhere target →
    target ≡ target_in found
target-gathered found target k = grind arith

resource-solid :
    (c : Content) (name : Name) (at : At) (text : List ℕ) (state resource : Option Target)
    (before target : Target) → Facts c name → is_allowed c name ≡ true →
    is_transparent name ≡ false →
    KnowsResource c state →
    TargetAfter (content_inside c name) at.found
    (if begins_target name then nowhere else before) target →
    ResourceAfter (content_inside c name) at.found
    (if is_labelled name then None else state) resource →
    ResourceAfter c (found_at at name text) state (resource_after name target resource)
resource-solid c name at text state resource before target facts h solid knows t k =
    grind (arith, cond-false, or_from, stays-told, kept-resource, target-gathered)

pub resource-done :
    (c : Content) (name : Name) (at : At) (text : List ℕ) (state resource : Option Target)
    (before target : Target) → Facts c name → is_allowed c name ≡ true → KnowsResource c state →
    TargetAfter (content_inside c name) at.found
    (if begins_target name then nowhere else before) target →
    ResourceAfter (content_inside c name) at.found
    (if is_labelled name then None else state) resource →
    ResourceAfter c (found_at at name text) state (resource_after name target resource)
resource-done c name at text state resource before target facts h knows t k =
    grind (arith, resource-solid)

pub resource-known : (c : Content) (name : Name) (children : Forest) (target : Target)
    (resource : Option Target) →
    KnowsResource (content_after (content_inside c name) children) resource →
    KnowsResource (content_after_node c name children) (resource_after name target resource)
resource-known c name children target resource k = grind arith
