-- What is known of a node where it is left.
use Rattle.std.proofs.Common.{◌≡◌, ℕ, Bool, true, false, List, [], ◌∷◌, ◌++◌, Option, None, refl}
use Rattle.std.proofs.Common.{ap, sym, subst, ◌∙◌, arith}
use Rattle.std.specs.Prelude.{if◌then◌else◌, count_by}
use Rattle.std.specs.List.{list_any}
use Rattle.std.proofs.lemmas.Bool.{and_parts, not-true}
use Rattle.md_base.specs.declared.event.Name.{Name}
use Rattle.md_base.specs.declared.event.Name.TheVariants.{Data, GfmTableCell, GfmFootnoteCall}
use Rattle.md_base.specs.declared.event.Point.{Point}
use Rattle.md_base.proofs.Lies.{lie}
use Rattle.md_base.specs.Is.{is}
use Rattle.md_base.specs.Tree.{Forest, Empty}
use Rattle.md_base.specs.Children.{last_name, spine_names, or_else}
use Rattle.md_base.specs.NameTests.{is_transparent, is_fence, is_chunk, is_cell, is_call}
use Rattle.md_pattern.specs.Looseness.{is_loose}
use Rattle.md_meaning.specs.declared.surroundings.Surroundings.{Surroundings}
use Rattle.md_meaning.specs.Meaning.Inherited.{inside}
use Rattle.md_meaning.specs.Meaning.Layout.{laid_after}
use Rattle.md_meaning.specs.Meaning.At.{Context, Before, identifier_of}
use Rattle.md_meaning.specs.Meaning.Before.{before_children}
use Rattle.md_content.specs.Underlined.{is_underline, waits_past, waits_after}
use Rattle.md_steps.specs.Content.{Content, Lines, BeforeLabel, Cells, Childless, Fits, is_allowed}
use Rattle.md_steps.specs.Content.{content_inside, content_after, content_after_node}
use Rattle.md_steps.specs.State.{State, facts_of}
use Rattle.md_steps.specs.Steps.{entered, restored, is_raw, is_row, is_ending, is_labelled}
use Rattle.md_steps.specs.Claim.{Knows, KnowsEnded, KnowsCells, KnowsLines, TargetAfter}
use Rattle.md_steps.specs.Claim.{ResourceAfter, Done, noted_all, has_marks, keeps_cells}
use Rattle.md_steps.specs.Claim.{keeps_lines, is_laid, at_node, node_of, inner_of, next_before}
use Rattle.md_steps.specs.Claim.{before_past}
use Rattle.md_steps.proofs.Past.{past, or_else-none}
use Rattle.md_steps.proofs.EachSide.{Leaves, is_reference}
use Rattle.md_steps.proofs.Standing.{Facts, allowed-facts, is_lines, picked}
use Rattle.md_steps.proofs.Staying.{stays, childless}
use Rattle.md_steps.proofs.ResourceFound.{resource-found}
use Rattle.md_tree.specs.declared.mention.Referral.TheVariants.{Missing}

-- the call that a node is
abbrev pub own_call : Name → List ℕ → List (List ℕ)
own_call name identifier = if is GfmFootnoteCall name then identifier ∷ [] else []

-- a node whose children are done, and the calls after it
pub record Reached (context : Context) (c : Content) (waits : Bool) (around : Surroundings)
    (before : Before) (last : Bool) (name : Name) (start end : Point) (children : Forest)
    (state s : State) : Type 0 where
  pub allowed : is_allowed c name ≡ true
  pub fits : Fits (content_inside c name) children
  pub line : is_underline name ≡ true → (waits ≡ true) × (spine_names children ≡ [])
  pub knows : Knows c waits around before state
  pub done : Done context (content_inside c name) (if is_transparent name then waits else false)
      (inside context.options (is_loose children) name around)
      (before_children name children before)
      children (entered context (facts_of context.bytes last children start end) name state) s
  pub same : children ≡ Empty →
      s ≡ entered context (facts_of context.bytes last children start end) name state
  pub later : List (List ℕ)
  pub whole : context.calls
      ≡ ((before.calls ++ (inner_of context around before name children).calls)
      ++ own_call name (identifier_of context.bytes children)) ++ later

-- a node is done
pub record NodeDone (context : Context) (c : Content) (waits : Bool) (around : Surroundings)
    (before : Before) (last : Bool)
    (name : Name) (start end : Point) (children : Forest) (state done : State) : Type 0 where
  pub text : is_laid c ≡ true → done.text ≡ laid_after context.ending state.text
      (node_of context around before last name start end children).pieces
  pub below : done.below ≡ state.below
  pub scopes : done.scopes ≡ state.scopes
  pub knows :
      Knows (content_after_node c name children)
      (if is_transparent name then waits_after waits children else waits_past waits name) around
      (next_before context around before last name start end children) done
  pub cells : keeps_cells c ≡ true → done.cells ≡ state.cells
  pub fences : keeps_lines c ≡ true → done.fences ≡ state.fences
  pub chunk : keeps_lines c ≡ true → done.has_chunk ≡ state.has_chunk
  pub marker : has_marks c ≡ false → done.marker ≡ state.marker
  pub heading : has_marks c ≡ false → done.heading ≡ state.heading
  pub target : TargetAfter c (node_of context around before last name start end children).found
      state.target done.target
  pub resource : ResourceAfter c (node_of context around before last name start end children).found
      state.resource done.resource
  pub footnotes : done.footnotes ≡ noted_all state.footnotes
      (node_of context around before last name start end children).footnotes

ended-known : (c : Content) (name : Name) (previous ended : Option Name) →
    is_allowed c name ≡ true →
    KnowsEnded c previous ended → ended ≡ previous
ended-known Childless name previous ended h k = lie h
ended-known _ name previous ended h k = k

lines_at : (c : Content) (spine : List Name) (fences : ℕ) (chunk : Bool) → is_lines c ≡ true →
    KnowsLines c spine fences chunk → fences ≡ count_by is_fence spine
lines_at Lines spine fences chunk h k = k.0
lines_at _ spine fences chunk h k = lie h

cell_at : (c : Content) (spine : List Name) (cells : ℕ) → is_allowed c GfmTableCell ≡ true →
    KnowsCells c spine cells →
    cells ≡ count_by (is GfmTableCell) spine
cell_at Cells spine cells h k = k
cell_at _ spine cells h k = lie h

cell-is : (name : Name) → is_cell name ≡ true → name ≡ GfmTableCell
cell-is GfmTableCell h = refl
cell-is _ h = lie h

marks_at : (c : Content) (name : Name) → Facts c name → is_transparent name ≡ false →
    has_marks c ≡ true
marks_at c name facts solid = grind arith

-- ---- the content of a node that passes a test, computed for all names
abbrev Told : Content → Name → Type 0
Told c name =
    ((if is_reference name then has_marks (content_inside c name) else false) ≡ false)
    × ((if is_underline name then has_marks (content_inside c name) else false) ≡ false)
    × ((if is_ending name then content_inside c name else Childless) ≡ Childless)
    × ((if is_raw name then content_inside c name else Lines) ≡ Lines)
    × ((if is_row name then content_inside c name else Cells) ≡ Cells)
    × ((if is_labelled name then content_inside c name else BeforeLabel) ≡ BeforeLabel)
    × ((if is_fence name then keeps_lines (content_inside c name) else true) ≡ true)
    × ((if is_fence name then is_raw name else false) ≡ false)
    × ((if is_raw name then is_transparent name else false) ≡ false)
    × ((if is_row name then is_transparent name else false) ≡ false)

told : (c : Content) (name : Name) → Told c name
told c Data = (refl, refl, refl, refl, refl, refl, refl, refl, refl, refl)
told c _ = (refl, refl, refl, refl, refl, refl, refl, refl, refl, refl)

-- the fences before a fence are counted where it is left
pub fence-counted : {context : Context} {c : Content} {waits : Bool} {around : Surroundings}
    {before : Before} {last : Bool} {name : Name} {start end : Point} {children : Forest}
    {state s : State} → Reached context c waits around before last name start end children state s →
    is_fence name ≡ true → s.fences ≡ count_by is_fence before.spine
fence-counted {c = c} {before = before} {name = name} {state = state} here h =
    here.done.fences (picked (is_fence name) _ true (told c name).6 h)
    ∙ ap (λ b. if b then 0 else state.fences) (picked (is_fence name) _ false (told c name).7 h)
    ∙ lines_at c before.spine state.fences state.has_chunk
    ((allowed-facts c name here.allowed).fence h) here.knows.lines

-- what is known of raw flow at its end
raw_known : (context : Context) (waits : Bool) (c : Content) (name : Name) (around : Surroundings)
    (first : Before) (children : Forest) (s : State) → is_raw name ≡ true →
    first.spine ≡ [] → first.previous ≡ None →
    Knows (content_after (content_inside c name) children) waits around
    (before_past context around first children)
    s →
    (s.fences ≡ count_by is_fence (spine_names children))
    × (s.has_chunk ≡ list_any is_chunk (spine_names children)) × (s.ended ≡ last_name children)
raw_known context waits c name around first children s raw none before k =
    grind (arith, picked, told, stays, past, or_else-none)

call-own : (name : Name) (identifier : List ℕ) →
    (if is_call name then own_call name identifier else identifier ∷ []) ≡ identifier ∷ []
call-own Data identifier = refl
call-own _ identifier = refl

-- what is known of a node where it is left
pub leaves : {context : Context} {c : Content} {waits : Bool} {around : Surroundings}
    {before : Before} {last : Bool} {name : Name} {start end : Point} {children : Forest}
    {state s : State} → Reached context c waits around before last name start end children state s →
    Leaves context name (at_node context around before last name start end children) state.cells
    (restored name s) s.ended
leaves {context} {c} {waits} {around} {before} {last} {name} {start} {end} {children} {state} {s}
    here =
    let within : Surroundings = inside context.options (is_loose children) name around in
    let first : Before = before_children name children before in
    let none : is_transparent name ≡ false → first.spine ≡ [] =
    λ e. ap (λ b. if b then before.spine else []) e in
    let own : is_call name ≡ true → own_call name (identifier_of context.bytes children)
    ≡ identifier_of context.bytes children ∷ [] =
    λ e. picked (is_call name) _ _ (call-own name (identifier_of context.bytes children)) e in
    record {
      marker = λ e.
          let parts = and_parts _ _ e in
          here.done.marker (picked (is_reference name) _ false (told c name).0 e)
          ∙ ap (λ b. if b then state.marker else 38) parts.0
          ∙ here.knows.marker (marks_at c name (allowed-facts c name here.allowed)
          (not-true (is_transparent name) parts.1));
      ending = λ e.
          let is = here.same (childless children (subst (λ c. Fits c children)
          (picked (is_ending name) _ Childless (told c name).2 e) here.fits)) in (
            ap (λ (t : State). t.slurps) is ∙ here.knows.slurps,
            ap (λ (t : State). t.ended) is ∙ ap (λ b. if b then state.ended else None) e
                ∙ ended-known c name before.previous state.ended here.allowed here.knows.ended,
          );
      raw = λ e. raw_known context _ c name within first children s e
          (none (picked (is_raw name) _ false (told c name).8 e)) refl here.done.knows;
      fences = fence-counted here;
      heading = λ e. here.done.heading (picked (is_underline name) _ false (told c name).1 e)
          ∙ here.knows.heading (here.line e).0;
      cell = λ e.
          let is = cell-is name e in
          let k = cell_at c before.spine state.cells
          (ap (λ n. is_allowed c n) (sym is) ∙ here.allowed)
          here.knows.cells in (
            k,
            here.done.cells (ap (λ n. keeps_cells (content_inside c n)) is)
                ∙ ap (λ n. if is_row n then 0 else state.cells) is ∙ k,
          );
      row = λ e.
          subst (λ x. KnowsCells x (before_past context within first children).spine s.cells)
          (ap (λ c. content_after c children) (picked (is_row name) _ Cells (told c name).4 e)
          ∙ stays Cells children refl) here.done.knows.cells
          ∙ ap (λ names. count_by (is GfmTableCell) names)
          ((past context within first children).spine ∙ ap (λ l. l ++ spine_names children)
          (none (picked (is_row name) _ false (told c name).9 e)));
      resource = λ e.
          let found = (inner_of context around before name children).found in
          let kept : s.resource ≡ or_else found.resource (if is_labelled name then None
          else state.resource) =
          subst (λ x. ResourceAfter x found (if is_labelled name then None else state.resource)
          s.resource) (picked (is_labelled name) _ BeforeLabel (told c name).5 e)
          here.done.resource in
          sym (kept ∙ ap (λ b. or_else found.resource (if b then None else state.resource)) e
          ∙ or_else-none found.resource);
      referred = λ lost. resource-found context within first (content_inside c name) children
          here.fits
          lost Missing refl;
      calls = λ e. (
        sym (here.done.knows.calls ∙ (past context within first children).calls),
        here.later,
        here.whole ∙ ap (λ l. ((before.calls ++
            (inner_of context around before name children).calls)
            ++ l) ++ here.later) (own e),
      );
    }
