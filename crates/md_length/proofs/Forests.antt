-- What some nodes print, and what is kept of their texts, is no longer than what the nodes may
-- print and what they use.
use Rattle.std.proofs.Common.{◌≡◌, ℕ, ◌+◌, ◌^◌, ◌≤◌, ◌<◌, Bool, true, false, ◌&&◌, List, length}
use Rattle.std.proofs.Common.{refl, ap, arith, Option, None, unwrap_or}
use Rattle.std.specs.Prelude.{if◌then◌else◌, is_some}
use Rattle.std.proofs.lemmas.List.{length-append}
use Rattle.md_base.specs.Children.{is_empty, or_else}
use Rattle.md_base.specs.NameTests.{is_transparent}
use Rattle.md_base.specs.Tree.{Forest, Empty, Node}
use Rattle.md_tree.specs.declared.mention.Referral.TheVariants as referral
use Rattle.md_tree.specs.Rules.{target_of}
use Rattle.md_meaning.specs.declared.surroundings.Surroundings.{Surroundings}
use Rattle.md_meaning.specs.Meaning.At.{Context, At, Before}
use Rattle.md_meaning.specs.Meaning.Before.{before_children}
use Rattle.md_meaning.specs.Meaning.Nodes.{Outcome, outcome}
use Rattle.md_steps.specs.Claim.{inner_of, at_node, node_of, next_before}
use Rattle.md_steps.specs.Content.{Content, Fits, content_inside, content_after_node}
use Rattle.md_steps.proofs.ResourceFound.{resource-found}
use Rattle.md_content.specs.References.{Everywhere}
use Rattle.md_content.specs.Underlined.{waits_past, waits_after, IsUnderlined}
use Rattle.md_length.specs.Costs.{cost, nodes}
use Rattle.md_length.specs.Sound.{IsSound}
use Rattle.md_length.specs.Uses.{uses, columns_in}
use Rattle.md_length.proofs.Calls.{call-short}
use Rattle.md_length.proofs.Pieces.{size, size-append, layout-short}
use Rattle.md_length.proofs.Prints.{prints-short}
use Rattle.md_length.proofs.Strings.{around_in, notes, notes-append, strings-short}
use Rattle.md_length.proofs.Kept.{kept, held, both-kept, calls-few}
use Rattle.md_length.proofs.NodesShort.{Known, node-short}

-- what some nodes print and what is kept of them
abbrev pub AreShort : Context → Surroundings → Before → Bool → Forest → Type 0
AreShort context around before waits forest =
    size (outcome context around before forest).pieces
    + kept (outcome context around before forest).found
    + notes (outcome context around before forest).footnotes
    + held (waits_after waits forest)
    (unwrap_or (outcome context around before forest).found.heading before.heading)
    ≤ cost context.names forest + uses context before.columns forest + held waits before.heading

unwrap-else : (later first : Option (List ℕ)) (before : List ℕ) →
    unwrap_or (or_else later first) before ≡ unwrap_or later (unwrap_or first before)
unwrap-else later first before = grind arith

-- the target that is a resource is found
has_resource : (context : Context) (around : Surroundings) (before : Before) (content : Content)
    (children : Forest) → Fits content children →
    target_of children referral.Missing ≡ referral.Resource →
    is_some (outcome context around before children).found.resource ≡ true
has_resource context around before content children fits is =
    let none = λ (none : (outcome context around before children).found.resource ≡ None).
    resource-found context around before content children fits none referral.Missing refl in
    grind (arith, none)

pub nodes-short : (context : Context) (around : Surroundings) (before : Before) (waits : Bool)
    (content : Content) (forest : Forest) → length context.ending ≤ 2 →
    length context.calls < 2 ^ 63 → length before.calls + nodes forest < 2 ^ 63 →
    Everywhere IsSound forest → Fits content forest → IsUnderlined waits forest →
    AreShort context around before waits forest
nodes-short context around before waits content Empty ending few rare sound fits under =
    omega arith
nodes-short context around before waits content (Node name start end children rest) ending few rare
    sound fits under =
    let last : Bool = around.is_outermost && is_empty rest in
    let inner : Outcome = inner_of context around before name children in
    let at : At = at_node context around before last name start end children in
    let here : Outcome = node_of context around before last name start end children in
    let next : Before = next_before context around before last name start end children in
    let later : Outcome = outcome context around next rest in
    let nested : Surroundings = around_in context around name children in
    let within : Before = before_children name children before in
    let inside : Content = content_inside content name in
    let waits_next : Bool =
    if is_transparent name then waits_after waits children else waits_past waits name in
    let counted = calls-few context around before (Node name start end children Empty) in
    let known : Known context at waits content inner name (cost context.names children
    + uses context (columns_in before.columns name children) children) = record {
      printed = prints-short context at inner.pieces name ending;
      laid = layout-short context.ending inner.pieces ending;
      sound = sound.0;
      resource = has_resource context nested within inside children fits.1;
      called = call-short context at few (omega (arith, length-append {A = List ℕ}, counted, rare));
      under = λ h. (under.0 h).0;
      strings = λ h.
          omega (arith, strings-short context nested within inside children h fits.1);
      children = nodes-short context nested within (if is_transparent name then waits else false)
          inside children ending few (omega (arith, rare)) sound.1 fits.1 under.1;
    } in
    let after = nodes-short context around next waits_next (content_after_node content name
    children) rest ending few
    (omega (arith, length-append {A = List ℕ}, counted, rare)) sound.2 fits.2 under.2 in
    omega (
      arith,
      size-append,
      notes-append,
      node-short context at waits content inner name _ known,
      after,
      ap (λ h. held (waits_after waits_next rest) h)
          (unwrap-else later.found.heading here.found.heading before.heading),
      both-kept later.found here.found,
    )
