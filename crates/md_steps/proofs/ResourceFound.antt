-- If the grammar finds a resource in a node, the meaning has found its target.
use Rattle.std.proofs.Common.{arith, ◌≡◌, ℕ, Bool, true, false, ◌&&◌, List, Option, Some, None}
use Rattle.std.proofs.Common.{refl, ap, sym, ◌∙◌}
use Rattle.md_base.specs.declared.event.Name.{Name}
use Rattle.md_base.specs.declared.event.Position.{Position}
use Rattle.md_base.specs.Children.{is_empty, or_else}
use Rattle.md_base.specs.NameTests.{is_transparent}
use Rattle.md_base.specs.Tree.{Forest, Empty, Node}
use Rattle.md_base.proofs.Lies.{lie}
use Rattle.md_pattern.specs.Looseness.{is_loose}
use Rattle.md_pattern.specs.Standing.{standing_of}
use Rattle.md_tree.specs.declared.mention.Referral.{Referral}
use Rattle.md_tree.specs.Rules.{place, target_of, target_after}
use Rattle.md_meaning.specs.declared.surroundings.Surroundings.{Surroundings}
use Rattle.md_meaning.specs.Meaning.Inherited.{inside}
use Rattle.md_meaning.specs.Meaning.At.{Context, Found, At, Before}
use Rattle.md_meaning.specs.Meaning.Before.{before_children}
use Rattle.md_meaning.specs.Meaning.Layout.{layout}
use Rattle.md_meaning.specs.Meaning.Nodes.{Outcome, outcome, found_at}
use Rattle.md_steps.specs.Content.{Content, BeforeLabel, AfterLabel, Fits, is_allowed}
use Rattle.md_steps.specs.Content.{content_inside, content_past, content_after_node}
use Rattle.md_steps.specs.State.{is_resource}
use Rattle.md_steps.specs.Claim.{at_node, inner_of, next_before}
use Rattle.md_steps.proofs.Staying.{node-stays}

-- a resource may stand there
abbrev refers : Content → Bool
refers content = elim content [ BeforeLabel ↦ true | AfterLabel ↦ true | _ ↦ false ]

past-same : (c : Content) → refers c ≡ false → content_past c ≡ c
past-same BeforeLabel h = lie (sym h)
past-same _ h = refl

-- a name that doesn't leave a resource
step-none : (c : Content) (name : Name) (found : Referral) (inner : Referral → Referral)
    (at : Position) → is_allowed c name ≡ true → refers c ≡ false →
    (refers (content_inside c name) ≡ false → (f : Referral) → is_resource f ≡ false →
    is_resource (inner f) ≡ false) → is_resource found ≡ false →
    is_resource (target_after (standing_of name) found inner at) ≡ false
step-none c name found inner at may h own k = grind arith

-- no resource is found where none may stand
none-found : (c : Content) (forest : Forest) → refers c ≡ false → Fits c forest →
    (found : Referral) → is_resource found ≡ false → is_resource (target_of forest found) ≡ false
none-found c Empty h fits found k = k
none-found c (Node name start end children rest) h fits found k =
    none-found (content_after_node c name children) rest
    (ap refers (node-stays c name children (past-same c h)) ∙ h) fits.2
    (target_after (standing_of name) found (target_of children) (place start end))
    (step-none c name found (target_of children) (place start end) fits.0 h
    (λ apart. none-found (content_inside c name) children apart fits.1) k)

none-both : {A : Type 0} (one two : Option A) → or_else one two ≡ None →
    (one ≡ None) × (two ≡ None)
none-both None two e = (refl, e)
none-both (Some x) two e = cc

-- a node in which no resource is found is none and leaves none
step-lost : (c : Content) (name : Name) (at : At) (text : List ℕ) (found : Referral)
    (inner : Referral → Referral) (where_it_is : Position) →
    (is_transparent name ≡ true → at.found.resource ≡ None → (f : Referral) →
    is_resource f ≡ false → is_resource (inner f) ≡ false) →
    (refers (content_inside c name) ≡ false → (f : Referral) → is_resource f ≡ false →
    is_resource (inner f) ≡ false) →
    (found_at at name text).resource ≡ None → is_resource found ≡ false →
    is_resource (target_after (standing_of name) found inner where_it_is) ≡ false
step-lost c name at text found inner where_it_is through own lost k = grind arith

pub resource-found : (context : Context) (around : Surroundings) (before : Before) (c : Content)
    (forest : Forest) → Fits c forest →
    (outcome context around before forest).found.resource ≡ None → (found : Referral) →
    is_resource found ≡ false → is_resource (target_of forest found) ≡ false
resource-found context around before c Empty fits lost found k = k
resource-found context around before c (Node name start end children rest) fits lost found k =
    let last : Bool = around.is_outermost && is_empty rest in
    let at : At = at_node context around before last name start end children in
    let inner : Outcome = inner_of context around before name children in
    let later : Outcome =
    outcome context around (next_before context around before last name start end children) rest in
    let parts = none-both later.found.resource
    (Found.resource (found_at at name (layout context.ending inner.pieces))) lost in
    resource-found context around
    (next_before context around before last name start end children)
    (content_after_node c name children) rest fits.2 parts.0
    (target_after (standing_of name) found (target_of children) (place start end))
    (step-lost c name at (layout context.ending inner.pieces) found (target_of children)
    (place start end)
    (λ through none. resource-found context (inside context.options (is_loose children) name around)
    (before_children name children before) (content_inside c name) children fits.1 none)
    (λ apart. none-found (content_inside c name) children apart fits.1) parts.1 k)
