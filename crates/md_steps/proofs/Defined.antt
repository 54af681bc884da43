-- What a definition defines doesn't depend on where it stands.
use Rattle.std.proofs.Common.{◌≡◌, Bool, true, false, ◌&&◌, [], ◌∷◌, ◌++◌, refl, ap, sym, ◌∙◌}
use Rattle.std.proofs.Common.{append-nil, unwrap_or}
use Rattle.std.specs.Prelude.{if◌then◌else◌}
use Rattle.md_base.specs.declared.event.Name.{Name}
use Rattle.md_base.specs.declared.event.Name.TheVariants as name_variants
use name_variants.{Definition}
use Rattle.md_base.specs.declared.event.Point.{Point}
use Rattle.md_base.proofs.Lies.{lie}
use Rattle.md_base.specs.Is.{is}
use Rattle.md_base.specs.Tree.{Forest, Empty, Node}
use Rattle.md_base.specs.Children.{is_empty}
use Rattle.md_base.specs.NameTests.{is_transparent}
use Rattle.md_pattern.specs.Looseness.{is_loose}
use Rattle.md_meaning.specs.declared.surroundings.Surroundings.{Surroundings}
use Rattle.md_meaning.specs.Meaning.Inherited.{inside, outermost}
use Rattle.md_meaning.specs.Meaning.Layout.{when}
use Rattle.md_meaning.specs.Meaning.At.{Context, Before, target_in, identifier_of}
use Rattle.md_meaning.specs.Meaning.Before.{before_children, nothing_before}
use Rattle.md_meaning.specs.Meaning.Nodes.{outcome}
use Rattle.md_content.specs.Underlined.{IsUnderlined, waits_after, waits_past}
use Rattle.md_steps.specs.Content.{Content, Blocks, Sources, Fits, is_allowed}
use Rattle.md_steps.specs.Content.{content_inside, content_after_node}
use Rattle.md_steps.specs.State.{State, facts_of}
use Rattle.md_steps.specs.Steps.{entered, over, beginning, is_passed}
use Rattle.md_steps.specs.Claim.{Done, inner_of, next_before}
use Rattle.md_steps.specs.Run.{defined}
use Rattle.md_steps.proofs.Past.{or_else-none}
use Rattle.md_steps.proofs.Staying.{node-same, past-as}
use Rattle.md_steps.proofs.Inside.{children_know}
use Rattle.md_steps.proofs.Runs.{nodes, begins}
use Rattle.md_steps.proofs.Quiet.{no-calls}
use Rattle.md_steps.proofs.AlikeStrings.{outcomes-alike}
use Rattle.md_steps.proofs.BlocksApart.{is_blocks, Open, open-inside}

defined_at : (c : Content) → is_allowed c Definition ≡ true → is_blocks c ≡ true
defined_at Blocks h = refl
defined_at _ h = lie h

-- the target of a definition is the one that its own events give
target-defined : (context : Context) (around : Surroundings) (before : Before) (start end : Point)
    (children : Forest) →
    around.is_escaping ≡ true → around.in_code ≡ false → Fits Sources children →
    IsUnderlined false children →
    target_in (inner_of context around before Definition children).found ≡
    (over context false children
    (entered context (facts_of context.bytes false children start end) Definition beginning)).target
target-defined context around before start end children escaping code fits lines =
    let within : Surroundings = inside context.options (is_loose children) Definition outermost in
    let first : Before = before_children Definition children nothing_before in
    let begun : State =
    entered context (facts_of context.bytes false children start end) Definition beginning in
    let none = (no-calls context within first Sources children refl fits).0 in
    let done :
    Done context Sources false within first children begun (over context false children begun) =
    nodes context Sources false within first children begun fits lines
    (children_know context Blocks false outermost nothing_before false Definition start end children
    beginning begins) (context.calls, ap (λ l. l ++ context.calls) (sym none)) in
    ap target_in (outcomes-alike context (inside context.options (is_loose children) Definition
    around)
    within (before_children Definition children before) first Sources children refl fits (record {
      escaping = escaping;
      code = code;
      one = refl;
      other = refl;
      spine = refl;
      previous = refl;
    })).1
    ∙ ap (λ t.
    record {
      destination = unwrap_or (outcome context within first children).found.destination [];
      title = t;
    })
    (sym (or_else-none (outcome context within first children).found.title))
    ∙ sym done.target

pub defined-known :
    (context : Context) (around : Surroundings) (before : Before) (c : Content) (waits : Bool)
    (forest : Forest) → Fits c forest → IsUnderlined waits forest → Open c around →
    (outcome context around before forest).definitions ≡ defined context forest
defined-known context around before c waits Empty fits lines plain_there = refl
defined-known context around before c waits (Node name start end children rest)
    fits lines plain_there =
    let last : Bool = around.is_outermost && is_empty rest in
    let next = next_before context around before last name start end children in
    ap (λ l. l ++ (outcome context around next rest).definitions) (here name fits.0 fits.1 lines.1
    (defined-known context (inside context.options (is_loose children) name around)
    (before_children name children before) (content_inside c name)
    (if is_transparent name then waits else false) children
    fits.1 lines.1
    (open-inside context.options (is_loose children) c name around fits.0 plain_there)))
    ∙ ap (λ l. (if is_passed name then record {
      identifier = identifier_of context.bytes children;
      target = (over context false children (entered context
          (facts_of context.bytes false children start end) Definition beginning)).target;
    } ∷ [] else defined context children) ++ l)
    (defined-known context around next (content_after_node c name children)
    (if is_transparent name then waits_after waits children else waits_past waits name) rest fits.2
    lines.2 (λ k. plain_there (sym (node-same is_blocks (past-as is_blocks refl) c name children) ∙
    k)))
  where
    here : (n : Name) → is_allowed c n ≡ true → Fits (content_inside c n) children →
        IsUnderlined (if is_transparent n then waits else false) children →
        (inner_of context around before n children).definitions ≡ defined context children →
        (inner_of context around before n children).definitions ++ when (is Definition n) (record {
          identifier = identifier_of context.bytes children;
          target = target_in (inner_of context around before n children).found;
        } ∷ []) ≡ (if is_passed n then record {
          identifier = identifier_of context.bytes children;
          target = (over context false children (entered context
              (facts_of context.bytes false children start end) Definition beginning)).target;
        } ∷ [] else defined context children)
    here Definition h f l again =
        rw (
          (no-calls context (inside context.options (is_loose children) Definition around)
              (before_children Definition children before) Sources children refl f).2,
          target-defined context around before start end children (plain_there (defined_at c h)).0
              (plain_there (defined_at c h)).1 f l,
        ) refl
    here _ h f l again = append-nil _ ∙ again
