-- The steps over some nodes print what these mean: one induction.
use Rattle.std.proofs.Common.{◌≡◌, ℕ, Bool, true, false, ◌&&◌, List, ◌++◌, Option, refl, ap}
use Rattle.std.proofs.Common.{sym, subst, ◌∙◌, append_assoc}
use Rattle.std.specs.Prelude.{if◌then◌else◌}
use Rattle.md_base.specs.declared.event.Name.{Name}
use Rattle.md_base.specs.declared.event.Name.TheVariants as name_variants
use name_variants.{BlockQuote}
use Rattle.md_base.specs.declared.event.Point.{Point}
use Rattle.md_base.proofs.Lies.{lie}
use Rattle.md_base.specs.Tree.{Forest, Empty, Node}
use Rattle.md_base.specs.Children.{is_empty}
use Rattle.md_base.specs.NameTests.{is_transparent}
use Rattle.md_pattern.specs.Looseness.{is_loose}
use Rattle.md_text.specs.declared.options.CompileOptions.{CompileOptions}
use Rattle.md_meaning.specs.declared.surroundings.Surroundings.{Surroundings}
use Rattle.md_meaning.specs.Meaning.Inherited.{inside, outermost}
use Rattle.md_meaning.specs.Meaning.Layout.{laid_after}
use Rattle.md_meaning.specs.Meaning.At.{Target, Context, Before, identifier_of}
use Rattle.md_meaning.specs.Meaning.Before.{before_children, nothing_before}
use Rattle.md_meaning.specs.Meaning.Nodes.{Outcome, outcome}
use Rattle.md_content.specs.Underlined.{waits_past, waits_after, IsUnderlined}
use Rattle.md_steps.specs.Content.{Content, Blocks, Strings, BeforeLabel, AfterLabel, Sources}
use Rattle.md_steps.specs.Content.{Nothing, Childless, Fits, content_inside, content_after_node}
use Rattle.md_steps.specs.State.{State, NodeFacts, facts_of}
use Rattle.md_steps.specs.Steps.{entered, exited, over, passed, is_passed, beginning}
use Rattle.md_steps.specs.Claim.{Knows, TargetAfter, ResourceAfter, Continues, Done, noted_all}
use Rattle.md_steps.specs.Claim.{has_marks, keeps_cells, keeps_lines, is_laid, node_of, inner_of}
use Rattle.md_steps.specs.Claim.{next_before}
use Rattle.md_steps.proofs.Laid.{laid-append}
use Rattle.md_steps.proofs.Noted.{noted-append}
use Rattle.md_steps.proofs.Staying.{node-same, past-as}
use Rattle.md_steps.proofs.Inside.{children_know}
use Rattle.md_steps.proofs.NodeLeaves.{Reached, NodeDone, own_call}
use Rattle.md_steps.proofs.NodeRuns.{node}
use Rattle.md_steps.proofs.PassedOver.{definition-node}
use Rattle.md_steps.proofs.FoundInBoth.{target-both, resource-both}

-- ---- the calls of the document, in parts
module _ (context : Context) (a i o r l : List (List ℕ))
    (whole : context.calls ≡ (a ++ ((i ++ o) ++ r)) ++ l) where
  in_children : context.calls ≡ (a ++ i) ++ ((o ++ r) ++ l)
  in_children = whole ∙ simp append_assoc

  in_own : context.calls ≡ ((a ++ i) ++ o) ++ (r ++ l)
  in_own = whole ∙ simp append_assoc

  in_rest : context.calls ≡ ((a ++ (i ++ o)) ++ r) ++ l
  in_rest = whole ∙ simp append_assoc

-- ---- one node after another
never_outermost : (options : CompileOptions) (loose : Bool) (name : Name) (around : Surroundings) →
    (inside options loose name around).is_outermost ≡ false
never_outermost options loose BlockQuote around = refl
never_outermost options loose _ around = refl

-- a node, skipped or not
one-node : {context : Context} {c : Content} {waits : Bool} {around : Surroundings}
    {before : Before} {last : Bool} {name : Name} {start end : Point} {children : Forest}
    {state s : State} → Reached context c waits around before last name start end children state s →
    NodeDone context c waits around before last name start end children state (if is_passed name
    then passed state else exited context (facts_of context.bytes last children start end) name s)
one-node {context} {c} {waits} {around} {before} {last} {name} {start} {end} {children} {state} {s}
    here =
    elim (is_passed name) as (λ b. is_passed name ≡ b →
    NodeDone context c waits around before last name start end children state
    (if b then passed state
    else exited context (facts_of context.bytes last children start end) name s)) [
      | true ↦ λ p. definition-node context c waits around before last name start end children
          state p here.allowed here.fits here.knows
      | false ↦ λ p. node here
    ] refl

-- the steps over some nodes print what they mean
pub nodes : (context : Context) (c : Content) (waits : Bool) (around : Surroundings)
    (before : Before)
    (forest : Forest) (state : State) → Fits c forest → IsUnderlined waits forest →
    Knows c waits around before state →
    Continues context before.calls (outcome context around before forest).calls →
    Done context c waits around before forest state (over context around.is_outermost forest state)
nodes context c waits around before Empty state fits lines knows whole = record {
  text = λ laid. refl;
  below = refl;
  scopes = refl;
  knows = knows;
  cells = λ keeps. refl;
  fences = λ keeps. refl;
  chunk = λ keeps. refl;
  marker = λ none. refl;
  heading = λ none. refl;
  target = no_target c state.target;
  resource = no_resource c state.resource;
  footnotes = refl;
}
  where
    no_target : (x : Content) (t : Target) →
        TargetAfter x (outcome context around before Empty).found t t
    no_target Strings t = refl
    no_target Nothing t = refl
    no_target Childless t = refl
    no_target Sources t = refl
    no_target _ t = tt

    no_resource : (x : Content) (r : Option Target) →
        ResourceAfter x (outcome context around before Empty).found r r
    no_resource Strings r = refl
    no_resource Nothing r = refl
    no_resource Childless r = refl
    no_resource BeforeLabel r = refl
    no_resource AfterLabel r = refl
    no_resource _ r = tt
nodes context c waits around before (Node name start end children rest) state fits lines
    knows whole =
    let last : Bool = around.is_outermost && is_empty rest in
    let facts : NodeFacts = facts_of context.bytes last children start end in
    let begun : State = entered context facts name state in
    let s : State = over context false children begun in
    let within : Surroundings = inside context.options (is_loose children) name around in
    let first : Before = before_children name children before in
    let inner : Outcome = inner_of context around before name children in
    let next : Before = next_before context around before last name start end children in
    let own : List (List ℕ) = own_call name (identifier_of context.bytes children) in
    let after : State = if is_passed name then passed state else exited context facts name s in
    let waits_next : Bool =
    if is_transparent name then waits_after waits children else waits_past waits name in
    let here : NodeDone context c waits around before last name start end children state after =
    one-node {s = s} (record {
      allowed = fits.0;
      fits = fits.1;
      line = lines.0;
      knows = knows;
      done =
          subst (λ b. Done context (content_inside c name)
          (if is_transparent name then waits else false) within first children begun
          (over context b children begun))
          (never_outermost context.options (is_loose children) name around)
          (nodes context (content_inside c name) (if is_transparent name then waits else false)
          within first children begun fits.1 lines.1
          (children_know context c waits around before last name start end children state knows) (
            (own ++ (outcome context around next rest).calls) ++ whole.0,
            in_children context before.calls inner.calls own
                (outcome context around next rest).calls whole.0 whole.1,
          ));
      same = λ e. ap (λ f. over context false f begun) e;
      later = (outcome context around next rest).calls ++ whole.0;
      whole = in_own context before.calls inner.calls own
          (outcome context around next rest).calls whole.0 whole.1;
    }) in
    let later : Done context (content_after_node c name children) waits_next around next rest after
    (over context around.is_outermost rest after) =
    nodes context (content_after_node c name children) waits_next around next rest after
    fits.2 lines.2 here.knows (
      whole.0,
      in_rest context before.calls inner.calls own
          (outcome context around next rest).calls whole.0 whole.1,
    ) in
    record {
      text = λ laid.
          later.text (node-same is_laid (past-as is_laid refl) c name children ∙ laid)
          ∙ ap (λ t. laid_after context.ending t (outcome context around next rest).pieces)
          (here.text laid) ∙ sym (laid-append context.ending state.text
          (node_of context around before
          last name start end children).pieces (outcome context around next rest).pieces);
      below = later.below ∙ here.below;
      scopes = later.scopes ∙ here.scopes;
      knows = later.knows;
      cells = λ keeps.
          later.cells (node-same keeps_cells (past-as keeps_cells refl) c name children ∙ keeps) ∙
          here.cells keeps;
      fences = λ keeps. later.fences (node-same keeps_lines (past-as keeps_lines refl) c name
          children ∙ keeps)
          ∙ here.fences keeps;
      chunk = λ keeps.
          later.chunk (node-same keeps_lines (past-as keeps_lines refl) c name children ∙ keeps) ∙
          here.chunk keeps;
      marker = λ none.
          later.marker (node-same has_marks (past-as has_marks refl) c name children ∙ none) ∙
          here.marker none;
      heading = λ none.
          later.heading (node-same has_marks (past-as has_marks refl) c name children ∙ none) ∙
          here.heading none;
      target =
          target-both c name children
          (node_of context around before last name start end children).found
          (outcome context around next rest).found state.target after.target
          (over context around.is_outermost rest after).target here.target later.target;
      resource =
          resource-both c name children
          (node_of context around before last name start end children).found
          (outcome context around next rest).found state.resource after.resource
          (over context around.is_outermost rest after).resource here.resource later.resource;
      footnotes =
          later.footnotes
          ∙ ap (λ l. noted_all l (outcome context around next rest).footnotes) here.footnotes
          ∙ sym (noted-append state.footnotes (node_of context around before last name start end
          children).footnotes (outcome context around next rest).footnotes);
    }

-- nothing stands before the first event
pub begins : Knows Blocks false outermost nothing_before beginning
begins = record {
  sees = refl;
  slurps = refl;
  ended = refl;
  marker = λ m. refl;
  lines = tt;
  heading = λ w. lie w;
  cells = tt;
  resource = tt;
  calls = refl;
}
