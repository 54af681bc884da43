-- The steps at a node's two ends, around those over its children, print what it means.
use Rattle.std.proofs.Common.{◌≡◌, ℕ, Bool, true, false, List, [], ◌++◌, Some, refl, ap, sym, subst}
use Rattle.std.proofs.Common.{◌∙◌, unwrap_or}
use Rattle.std.specs.Prelude.{if◌then◌else◌}
use Rattle.md_base.specs.declared.event.Name.{Name}
use Rattle.md_base.specs.declared.event.Name.TheVariants as name_variants
use name_variants.{Data, LineEnding}
use Rattle.md_base.specs.declared.event.Point.{Point}
use Rattle.md_base.proofs.Lies.{lie}
use Rattle.md_base.specs.Is.{is}
use Rattle.md_base.specs.Tree.{Forest}
use Rattle.md_base.specs.NameTests.{is_transparent}
use Rattle.md_pattern.specs.Looseness.{is_loose}
use Rattle.md_meaning.specs.declared.surroundings.Surroundings.{Surroundings}
use Rattle.md_meaning.specs.Meaning.Inherited.{inside}
use Rattle.md_meaning.specs.Meaning.Layout.{Piece, laid_after, layout}
use Rattle.md_meaning.specs.Meaning.At.{Context, At, Before}
use Rattle.md_meaning.specs.Meaning.Before.{before_children}
use Rattle.md_meaning.specs.Meaning.Nodes.{Outcome}
use Rattle.md_content.specs.Underlined.{waits_after}
use Rattle.md_steps.specs.Content.{Content, Nothing, Childless, Fits, content_of}
use Rattle.md_steps.specs.Content.{content_inside, content_after, content_after_node}
use Rattle.md_steps.specs.State.{State, NodeFacts, facts_of, captures, opens_scope, scope_inside}
use Rattle.md_steps.specs.Steps.{exited, restored, slurps_after, heading_after, is_value}
use Rattle.md_steps.specs.Sides.{opens, closes}
use Rattle.md_meaning.specs.Meaning.Spans.{marker}
use Rattle.md_steps.specs.Claim.{KnowsCells, KnowsLines, has_marks, mark_after, at_node}
use Rattle.md_steps.specs.Claim.{inner_of, seen}
use Rattle.md_steps.proofs.Past.{Passed, past}
use Rattle.md_steps.proofs.Laid.{three}
use Rattle.md_steps.proofs.Sides.{sides-seen}
use Rattle.md_steps.proofs.Standing.{Facts, allowed-facts, is_nothing, picked}
use Rattle.md_steps.proofs.Staying.{childless}
use Rattle.md_steps.proofs.Inside.{children_know, any_ended}
use Rattle.md_steps.proofs.Counting.{marker-after, cells-known, cells-kept, lines-known}
use Rattle.md_steps.proofs.Counting.{fences-kept, chunk-kept}
use Rattle.md_steps.proofs.Targets.{target-known, resource-done, resource-known}
use Rattle.md_steps.proofs.Leaving.{heading-known, calls-known, footnotes-known, slurps-known}
use Rattle.md_steps.proofs.Quiet.{quiet}
use Rattle.md_steps.proofs.CapturedTexts.{Texts, texts, read, heading-kept}
use Rattle.md_steps.proofs.CapturedTexts.{aside-kept, footnote-kept, kept-text, Back, back}
use Rattle.md_steps.proofs.NodeLeaves.{Reached, NodeDone, fence-counted, leaves}

-- a line ending has no children
line_ending : (c : Content) (name : Name) → is LineEnding name ≡ true →
    content_inside c name ≡ Childless
line_ending c LineEnding e = refl
line_ending c _ e = lie e

-- where marks of references aren't allowed, only transparent nodes are
nothing_is : (c : Content) → has_marks c ≡ false → is_nothing c ≡ true
nothing_is Nothing e = refl
nothing_is Childless e = refl
nothing_is _ e = lie (sym e)

through : (name : Name) (m : ℕ) (inner heading : List ℕ) →
    ((if is_transparent name then (if is_value name then m else 38) else m) ≡ m)
    × ((if is_transparent name then heading_after name inner heading else heading) ≡ heading)
through Data m inner heading = (refl, refl)
through _ m inner heading = (refl, refl)

pub node : {context : Context} {c : Content} {waits : Bool} {around : Surroundings}
    {before : Before} {last : Bool} {name : Name} {start end : Point} {children : Forest}
    {state s : State} → Reached context c waits around before last name start end children state s →
    NodeDone context c waits around before last name start end children state
    (exited context (facts_of context.bytes last children start end) name s)
node {context} {c} {waits} {around} {before} {last} {name} {start} {end} {children} {state} {s}
    here =
    let done = here.done in
    let knows = here.knows in
    let facts : NodeFacts = facts_of context.bytes last children start end in
    let at : At = at_node context around before last name start end children in
    let allows : Facts c name = allowed-facts c name here.allowed in
    let within : Surroundings = inside context.options (is_loose children) name around in
    let first : Before = before_children name children before in
    let inner : Outcome = inner_of context around before name children in
    let after_them : Passed context within first children = past context within first children in
    let opened : List ℕ =
    laid_after context.ending state.text (opens context state.scope state.cells facts name) in
    let t : Texts context c name opened state.below inner.pieces s =
    texts context c name opened state.below inner.pieces s allows done.text done.below in
    let came : Back (opens_scope name) state.scope state.scopes s.scope s.scopes =
    back (opens_scope name) state.scope (scope_inside context.options facts name state.scope)
    state.scopes
    s.scope s.scopes done.scopes
    (done.knows.sees
    ∙ ap (λ columns. seen within columns) after_them.columns
    ∙ sym (children_know context c waits around before last name start end children
    state knows).sees) in
    let left : State = restored name s in
    let sees : left.scope ≡ seen around before.columns = came.one ∙ knows.sees in
    let captured : List ℕ = if captures name then s.text else [] in
    let mid : List Piece = if captures name then [] else inner.pieces in
    let own : List ℕ = if captures name then layout context.ending inner.pieces else [] in
    let spine : List Name = if is_transparent name then before.spine else [] in
    record {
      text = λ laid.
          ap (λ x. laid_after context.ending x (closes context left s.ended facts captured name))
          (t.outer laid)
          ∙ ap (λ ps. laid_after context.ending (laid_after context.ending opened mid) ps)
          (read context left s.ended facts captured own c name laid t.inner)
          ∙ ap (λ a. laid_after context.ending (laid_after context.ending opened mid)
          (closes context (record left { scope = a }) s.ended facts own name)) sees
          ∙ three context.ending state.text (opens context state.scope state.cells facts name) mid
          (closes context (record left { scope = seen around before.columns }) s.ended facts own
          name)
          ∙ ap (λ a. laid_after context.ending state.text
          (opens context a state.cells facts name ++ (mid
          ++ closes context (record left { scope = seen around before.columns }) s.ended facts own
          name))) knows.sees ∙ ap (λ ps. laid_after context.ending state.text ps)
          (sym (sides-seen context at state.cells left s.ended inner.pieces name (allows.aside laid)
          (quiet context around before c name children here.fits) (leaves here)));
      below = t.under;
      scopes = came.others;
      knows = record {
        sees = sees;
        slurps =
            ap (λ a. slurps_after name (record left { scope = a })) sees
            ∙ slurps-known name at left inner.slurps
            (done.knows.slurps ∙ after_them.slurps) (fence-counted here);
        ended = any_ended (content_after_node c name children) (Some name);
        marker = marker-after c name before.spine children s.marker (λ m. done.knows.marker m
            ∙ ap (λ l. mark_after l) after_them.spine);
        lines =
            lines-known c name before.spine children state.fences s.fences state.has_chunk
            s.has_chunk allows knows.lines
            (subst (λ l. KnowsLines (content_after (content_inside c name) children) l s.fences
            s.has_chunk) after_them.spine done.knows.lines) done.fences done.chunk;
        heading =
            heading-known name at waits (waits_after waits children) captured
            (layout context.ending inner.pieces) s.heading (λ e. kept-text context c name opened
            state.below inner.pieces s t (heading-kept c name e)) (λ e w.
            done.knows.heading (ap (λ b. waits_after (if b then waits else false) children) e ∙ w)
            ∙ after_them.heading
            ∙ ap (λ b. unwrap_or inner.found.heading (if b then before.heading else [])) e)
            (λ e w. ap (λ (t : State). t.heading) (here.same (childless children
            (subst (λ x. Fits x children) (line_ending c name e) here.fits))) ∙ knows.heading w);
        cells =
            cells-known c name before.spine children state.cells s.cells allows knows.cells
            (subst (λ l. KnowsCells (content_after (content_inside c name) children) l s.cells)
            after_them.spine
            done.knows.cells) done.cells;
        resource = resource-known c name children left.target left.resource done.knows.resource;
        calls =
            calls-known name facts.identifier before.calls inner.calls s.calls
            (done.knows.calls ∙ after_them.calls);
      };
      cells = cells-kept c name state.cells s.cells allows done.cells;
      fences = fences-kept c name state.fences s.fences allows done.fences;
      chunk = chunk-kept c name state.has_chunk s.has_chunk allows done.chunk;
      marker = λ e.
          let clear = allows.nothing (nothing_is c e) in
          ap (λ b. if b then s.marker else marker name) clear
          ∙ done.marker (ap (λ b. has_marks (if b then c else content_of name)) clear ∙ e)
          ∙ picked (is_transparent name) _ _ (through name state.marker [] []).0 clear;
      heading = λ e.
          let clear = allows.nothing (nothing_is c e) in
          picked (is_transparent name) _ _ (through name 0 captured s.heading).1 clear
          ∙ done.heading (ap (λ b. has_marks (if b then c else content_of name)) clear ∙ e);
      target =
          target-known c name at captured (layout context.ending inner.pieces)
          state.target s.target allows here.allowed
          (λ e. kept-text context c name opened state.below inner.pieces s t (aside-kept c name e))
          done.target;
      resource =
          resource-done c name at (layout context.ending inner.pieces) state.resource s.resource
          state.target s.target allows
          here.allowed knows.resource done.target done.resource;
      footnotes =
          footnotes-known name facts.identifier (layout context.ending inner.pieces) captured
          state.footnotes inner.footnotes
          s.footnotes
          (λ e. kept-text context c name opened state.below inner.pieces s t
          (footnote-kept c name e))
          done.footnotes;
    }
