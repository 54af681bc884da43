-- The claims about the steps: what a state knows before some nodes, and what holds after them. Only
-- proofs use it.
use Rattle.std.specs.Prelude.{◌≡◌, ℕ, ◌-◌, Bool, true, false, ◌&&◌, List, [], ◌∷◌, ◌++◌, Option}
use Rattle.std.specs.Prelude.{None, count_by, unwrap_or, length, slice_get}
use Rattle.std.specs.Option.{option_map_or}
use Rattle.std.specs.List.{list_any}
use Rattle.md_base.specs.declared.event.AlignKind.{AlignKind}
use Rattle.md_base.specs.declared.event.Name.{Name}
use Rattle.md_base.specs.declared.event.Name.TheVariants.{GfmTableCell}
use Rattle.md_base.specs.declared.event.Point.{Point}
use Rattle.md_base.specs.Is.{is}
use Rattle.md_base.specs.Tree.{Forest, Empty, Node}
use Rattle.md_base.specs.NameTests.{is_fence, is_chunk}
use Rattle.md_base.specs.Children.{is_empty, or_else}
use Rattle.md_pattern.specs.Looseness.{is_loose}
use Rattle.md_tree.specs.Rules.{place}
use Rattle.md_meaning.specs.declared.surroundings.Container.TheVariants as container
use Rattle.md_meaning.specs.declared.surroundings.Surroundings.{Surroundings}
use Rattle.md_meaning.specs.Meaning.Inherited.{inside, is_tight}
use Rattle.md_meaning.specs.Meaning.Layout.{laid_after}
use Rattle.md_meaning.specs.Meaning.At.{Target, Footnote, Context, At, Before, Found}
use Rattle.md_meaning.specs.Meaning.Before.{before_children}
use Rattle.md_meaning.specs.Meaning.Spans.{marker}
use Rattle.md_meaning.specs.Meaning.Nodes.{Outcome, node, outcome, before_next}
use Rattle.md_content.specs.Underlined.{waits_after}
use Rattle.md_steps.specs.State.{State, Scope}
use Rattle.md_steps.specs.Steps.{noted}
use Rattle.md_steps.specs.Content.{Content, Blocks, Strings, Lines, BeforeLabel, AfterLabel}
use Rattle.md_steps.specs.Content.{Sources, Rows, Cells, Nothing, Childless, content_after}

-- the printer's copy of a node's surroundings
abbrev pub seen : Surroundings → List AlignKind → Scope
seen around columns = record {
  is_contained = elim around.container [ container.Nothing ↦ false | _ ↦ true ];
  is_tight = is_tight around.container;
  in_image = around.in_image;
  in_link = around.in_link;
  in_table = around.in_table;
  in_head = around.in_head;
  in_code = around.in_code;
  in_definition = around.in_definition;
  is_escaping = around.is_escaping;
  columns = columns;
}

-- the count of cells is preserved
abbrev pub keeps_cells : Content → Bool
keeps_cells content = elim content [ Blocks ↦ false | Rows ↦ false | Cells ↦ false | _ ↦ true ]

-- the state of raw flow is preserved
abbrev pub keeps_lines : Content → Bool
keeps_lines content = elim content [ Blocks ↦ false | Lines ↦ false | _ ↦ true ]

-- marks of references may occur there
abbrev pub has_marks : Content → Bool
has_marks content = elim content [ Nothing ↦ false | Childless ↦ false | _ ↦ true ]

-- the pending mark of a reference, after some names on its spine
abbrev pub mark_after : List Name → ℕ
mark_after spine = option_map_or marker (slice_get spine (length spine - 1)) 38

abbrev pub KnowsEnded : Content → Option Name → Option Name → Type 0
KnowsEnded Childless previous ended = Unit {0}
KnowsEnded _ previous ended = ended ≡ previous

abbrev pub KnowsCells : Content → List Name → ℕ → Type 0
KnowsCells Cells spine cells = cells ≡ count_by (is GfmTableCell) spine
KnowsCells _ spine cells = Unit {0}

abbrev pub KnowsLines : Content → List Name → ℕ → Bool → Type 0
KnowsLines Lines spine fences has_chunk =
    (fences ≡ count_by is_fence spine) × (has_chunk ≡ list_any is_chunk spine)
KnowsLines _ spine fences has_chunk = Unit {0}

abbrev pub KnowsResource : Content → Option Target → Type 0
KnowsResource BeforeLabel resource = resource ≡ None
KnowsResource _ resource = Unit {0}

-- a state matches the state of the meaning before some nodes; the next one may be an underline or
-- not
pub record Knows (content : Content) (waits : Bool) (around : Surroundings) (before : Before)
    (state : State) : Type 0 where
  pub sees : state.scope ≡ seen around before.columns
  pub slurps : state.slurps ≡ before.slurps
  pub ended : KnowsEnded content before.previous state.ended
  pub marker : has_marks content ≡ true → state.marker ≡ mark_after before.spine
  pub lines : KnowsLines content before.spine state.fences state.has_chunk
  pub heading : waits ≡ true → state.heading ≡ before.heading
  pub cells : KnowsCells content before.spine state.cells
  pub resource : KnowsResource content state.resource
  pub calls : state.calls ≡ before.calls

-- the target of the resource or the definition, after some of its children
abbrev pub TargetAfter : Content → Found → Target → Target → Type 0
TargetAfter Sources found before after = after ≡ record {
  destination = unwrap_or found.destination before.destination;
  title = or_else found.title before.title;
}
TargetAfter Strings found before after = after ≡ before
TargetAfter Nothing found before after = after ≡ before
TargetAfter Childless found before after = after ≡ before
TargetAfter _ found before after = Unit {0}

abbrev pub ResourceAfter : Content → Found → Option Target → Option Target → Type 0
ResourceAfter BeforeLabel found before after = after ≡ or_else found.resource before
ResourceAfter AfterLabel found before after = after ≡ or_else found.resource before
ResourceAfter Strings found before after = after ≡ before
ResourceAfter Nothing found before after = after ≡ before
ResourceAfter Childless found before after = after ≡ before
ResourceAfter _ found before after = Unit {0}

-- pieces printed there go into the text, unless it is captured and dropped
abbrev pub is_laid : Content → Bool
is_laid content = elim content [ Sources ↦ false | _ ↦ true ]

-- the footnotes after some more, of which those with a known identifier change nothing
abbrev pub noted_all : List Footnote → List Footnote → List Footnote
noted_all before [] = before
noted_all before (footnote ∷ footnotes) = noted_all (noted before footnote) footnotes

-- ---- a node in the terms of its meaning

abbrev pub inner_of : Context → Surroundings → Before → Name → Forest → Outcome
inner_of context around before name children =
    outcome context (inside context.options (is_loose children) name around)
    (before_children name children before) children

abbrev pub at_node : Context → Surroundings → Before → Bool → Name → Point → Point → Forest → At
at_node context around before last name start end children = record {
  around = around;
  before = before;
  children = children;
  found = (inner_of context around before name children).found;
  calls = before.calls ++ (inner_of context around before name children).calls;
  place = place start end;
  is_last = last;
}

abbrev pub node_of : Context → Surroundings → Before → Bool → Name → Point → Point → Forest →
    Outcome
node_of context around before last name start end children =
    node context (at_node context around before last name start end children) name
    (inner_of context around before name children)

-- the state before its next sibling
abbrev pub next_before : Context → Surroundings → Before → Bool → Name → Point →
    Point → Forest → Before
next_before context around before last name start end children =
    before_next (at_node context around before last name start end children) name
    (node_of context around before last name start end children)

-- the state after some nodes
abbrev pub before_past : Context → Surroundings → Before → Forest → Before
before_past context around before Empty = before
before_past context around before (Node name start end children rest) =
    before_past context around (next_before context around before
    (around.is_outermost && is_empty rest)
    name start end children) rest

-- the calls of the document are those before some nodes, those in them, and later ones
abbrev pub Continues : Context → List (List ℕ) → List (List ℕ) → Type 0
Continues context before calls = (later : List (List ℕ)) ×
    (context.calls ≡ (before ++ calls) ++ later)

-- what holds after some nodes: their pieces are laid out, the surroundings are as before, the state
-- matches that before the next node, and what their content can't change is as before
pub record Done (context : Context) (content : Content) (waits : Bool) (around : Surroundings)
    (before : Before) (forest : Forest) (state done : State) : Type 0 where
  pub text : is_laid content ≡ true →
      done.text ≡ laid_after context.ending state.text (outcome context around before forest).pieces
  pub below : done.below ≡ state.below
  pub scopes : done.scopes ≡ state.scopes
  pub knows :
      Knows (content_after content forest) (waits_after waits forest) around
      (before_past context around before forest) done
  pub cells : keeps_cells content ≡ true → done.cells ≡ state.cells
  pub fences : keeps_lines content ≡ true → done.fences ≡ state.fences
  pub chunk : keeps_lines content ≡ true → done.has_chunk ≡ state.has_chunk
  pub marker : has_marks content ≡ false → done.marker ≡ state.marker
  pub heading : has_marks content ≡ false → done.heading ≡ state.heading
  pub target : TargetAfter content (outcome context around before forest).found
      state.target done.target
  pub resource : ResourceAfter content (outcome context around before forest).found
      state.resource done.resource
  pub footnotes :
      done.footnotes ≡ noted_all state.footnotes (outcome context around before forest).footnotes
