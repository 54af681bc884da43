-- The printer's step at each event: one text that contains the captured ones, and a stack of only
-- what changes.
use Rattle.std.specs.Prelude.{ℕ, ◌+◌, Bool, true, false, ◌&&◌, ◌||◌, ◌==◌, if◌then◌else◌, List, []}
use Rattle.std.specs.Prelude.{◌∷◌, ◌++◌, Option, Some, None, bytes_eq}
use Rattle.md_base.specs.declared.event.Name.{Name}
use Rattle.md_base.specs.declared.event.Name.TheVariants as name_variants
use name_variants.{LineEnding, BlankLineEnding, BlockQuote, ListItem, GfmFootnoteDefinition}
use name_variants.{CharacterReferenceValue, CodeIndented, CodeFenced, CodeFencedFence, MathFlow}
use name_variants.{MathFlowFence, Definition, DefinitionDestinationString, DefinitionTitleString}
use name_variants.{Link, Image, Label, Resource, ResourceDestinationString, ResourceTitleString}
use name_variants.{GfmFootnoteCall, HeadingSetextText, GfmTableRow, GfmTableCell, Paragraph}
use name_variants.{Frontmatter}
use Rattle.md_base.specs.Tree.{Forest, Empty, Node}
use Rattle.md_base.specs.Children.{is_empty}
use Rattle.md_base.specs.NameTests.{is_transparent, is_fence, is_chunk}
use Rattle.md_meaning.specs.Meaning.Layout.{laid_after}
use Rattle.md_meaning.specs.Meaning.At.{Target, Footnote, Context, nothing_found, target_in}
use Rattle.md_meaning.specs.Meaning.Spans.{marker}
use Rattle.md_steps.specs.State.{State, outside, NodeFacts, opens_scope, scope_inside, captures}
use Rattle.md_steps.specs.State.{facts_of}
use Rattle.md_steps.specs.Sides.{opens, closes}

-- ---- the rest of the state

-- outside definitions: whether the next line ending is slurped after a node
abbrev pub slurps_after : Name → State → Bool
slurps_after name left =
    let outside : Bool → Bool =
    λ slurps. if left.scope.in_definition then left.slurps else slurps in
    elim name [
      | CodeFencedFence ↦ outside ((left.fences == 0) || left.slurps)
      | MathFlowFence ↦ outside ((left.fences == 0) || left.slurps)
      | HeadingSetextText ↦ outside true
      | Frontmatter ↦ outside true
      | Paragraph ↦ outside (left.scope.is_tight || left.slurps)
      | BlankLineEnding ↦ outside false
      | BlockQuote ↦ outside false
      | CodeIndented ↦ outside false
      | CodeFenced ↦ outside false
      | MathFlow ↦ outside false
      | ListItem ↦ outside false
      | LineEnding ↦ outside (left.scope.in_code && left.slurps)
      | _ ↦ left.slurps
    ]

abbrev pub is_value : Name → Bool
is_value name = elim name [ CharacterReferenceValue ↦ true | other ↦ is_transparent other ]

abbrev pub is_ending : Name → Bool
is_ending name = elim name [ LineEnding ↦ true | _ ↦ false ]

abbrev pub is_raw : Name → Bool
is_raw name = elim name [ CodeIndented ↦ true | CodeFenced ↦ true | MathFlow ↦ true | _ ↦ false ]

abbrev pub is_row : Name → Bool
is_row name = elim name [ GfmTableRow ↦ true | _ ↦ false ]

abbrev pub begins_target : Name → Bool
begins_target name = elim name [ Resource ↦ true | Definition ↦ true | _ ↦ false ]

abbrev pub is_labelled : Name → Bool
is_labelled name = elim name [ Link ↦ true | Image ↦ true | GfmFootnoteCall ↦ true | _ ↦ false ]

abbrev pub nowhere : Target
nowhere = target_in nothing_found

abbrev pub target_after : Name → List ℕ → Target → Target
target_after name inner target = elim name [
  | DefinitionDestinationString ↦ record target { destination = inner }
  | ResourceDestinationString ↦ record target { destination = inner }
  | DefinitionTitleString ↦ record target { title = Some inner }
  | ResourceTitleString ↦ record target { title = Some inner }
  | Resource ↦ nowhere
  | _ ↦ target
]

abbrev pub resource_after : Name → Target → Option Target → Option Target
resource_after name target resource =
    elim name [ Label ↦ None | Resource ↦ Some target | _ ↦ resource ]

abbrev pub cells_after : Name → ℕ → ℕ
cells_after name cells = elim name [ GfmTableCell ↦ cells + 1 | _ ↦ cells ]

abbrev pub heading_after : Name → List ℕ → List ℕ → List ℕ
heading_after name inner heading = elim name [ HeadingSetextText ↦ inner | _ ↦ heading ]

abbrev pub calls_after : Name → List ℕ → List (List ℕ) → List (List ℕ)
calls_after name identifier calls =
    elim name [ GfmFootnoteCall ↦ calls ++ identifier ∷ [] | _ ↦ calls ]

-- the footnotes with one more, unless there is one with its identifier
abbrev pub noted : List Footnote → Footnote → List Footnote
noted [] footnote = footnote ∷ []
noted (first ∷ others) footnote =
    first
    ∷ (if bytes_eq first.identifier footnote.identifier then others else noted others footnote)

abbrev pub footnotes_after : Name → List ℕ → List ℕ → List Footnote → List Footnote
footnotes_after name identifier inner footnotes = elim name [
  | GfmFootnoteDefinition ↦ noted footnotes (record { identifier = identifier; text = inner })
  | _ ↦ footnotes
]

-- the state after a node's entry
abbrev pub entered : Context → NodeFacts → Name → State → State
entered context facts name state =
    let opened =
    laid_after context.ending state.text (opens context state.scope state.cells facts name) in
    record {
      text = if captures name then [] else opened;
      below = if captures name then opened ∷ state.below else state.below;
      scope = if opens_scope name then scope_inside context.options facts name state.scope else
          state.scope;
      scopes = if opens_scope name then state.scope ∷ state.scopes else state.scopes;
      slurps = state.slurps;
      ended = if is_ending name then state.ended else None;
      marker = if is_value name then state.marker else 38;
      fences = if is_raw name then 0 else state.fences;
      has_chunk = if is_raw name then false else state.has_chunk;
      heading = state.heading;
      cells = if is_row name then 0 else state.cells;
      target = if begins_target name then nowhere else state.target;
      resource = if is_labelled name then None else state.resource;
      calls = state.calls;
      footnotes = state.footnotes;
    }

abbrev pub first_or : {A : Type 0} → A → List A → A
first_or other [] = other
first_or other (x ∷ xs) = x

abbrev pub others_of : {A : Type 0} → List A → List A
others_of [] = []
others_of (x ∷ xs) = xs

-- pops the surroundings of a node
abbrev pub restored : Name → State → State
restored name state = record state {
  text = if captures name then first_or [] state.below else state.text;
  below = if captures name then others_of state.below else state.below;
  scope = if opens_scope name then first_or outside state.scopes else state.scope;
  scopes = if opens_scope name then others_of state.scopes else state.scopes;
}

-- the state after a node's exit
abbrev pub exited : Context → NodeFacts → Name → State → State
exited context facts name state =
    let left = restored name state in
    let inner = if captures name then state.text else [] in
    record left {
      text = laid_after context.ending left.text (closes context left state.ended facts inner name);
      slurps = slurps_after name left;
      ended = Some name;
      marker = if is_transparent name then left.marker else marker name;
      fences = if is_fence name then left.fences + 1 else left.fences;
      has_chunk = is_chunk name || left.has_chunk;
      heading = heading_after name inner left.heading;
      cells = cells_after name left.cells;
      target = target_after name inner left.target;
      resource = resource_after name left.target left.resource;
      calls = calls_after name facts.identifier left.calls;
      footnotes = footnotes_after name facts.identifier inner left.footnotes;
    }

-- a definition is skipped: its own events are printed before all others
abbrev pub passed : State → State
passed state = record state { ended = Some Definition; marker = 38 }

abbrev pub is_passed : Name → Bool
is_passed name = elim name [ Definition ↦ true | _ ↦ false ]

-- the steps over some nodes; `outermost` says whether they are the document's own nodes
abbrev pub over : Context → Bool → Forest → State → State
over context outermost Empty state = state
over context outermost (Node name start end children rest) state =
    let facts : NodeFacts = facts_of context.bytes (outermost && is_empty rest) children start end
    in
    over context outermost rest (if is_passed name then passed state
    else exited context facts name (over context false children (entered context facts name state)))

-- the state before the first event
abbrev pub beginning : State
beginning = record {
  text = [];
  below = [];
  scope = outside;
  scopes = [];
  slurps = false;
  ended = None;
  marker = 38;
  fences = 0;
  has_chunk = false;
  heading = [];
  cells = 0;
  target = nowhere;
  resource = None;
  calls = [];
  footnotes = [];
}
