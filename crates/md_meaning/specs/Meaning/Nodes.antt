-- The meaning of nodes in sequence.
use Rattle.std.specs.Prelude.{ℕ, Bool, List, [], ◌∷◌, ◌++◌, ◌&&◌, if◌then◌else◌, unwrap_or, Some}
use Rattle.md_base.specs.declared.event.Name.{Name}
use Rattle.md_base.specs.declared.event.Name.TheVariants as name_variants
use name_variants.{HeadingSetextText, Definition, DefinitionDestinationString}
use name_variants.{DefinitionTitleString, GfmFootnoteCall, GfmFootnoteDefinition, Resource}
use name_variants.{ResourceDestinationString, ResourceTitleString}
use Rattle.md_base.specs.Is.{is}
use Rattle.md_base.specs.Tree.{Forest, Empty, Node}
use Rattle.md_base.specs.Children.{is_empty, or_else, spine_names}
use Rattle.md_pattern.specs.Looseness.{is_loose}
use Rattle.md_base.specs.NameTests.{is_transparent}
use Rattle.md_meaning.specs.declared.surroundings.Surroundings.{Surroundings}
use Rattle.md_tree.specs.Rules.{place}
use Rattle.md_meaning.specs.Meaning.Inherited.{inside}
use Rattle.md_meaning.specs.Meaning.Layout.{Piece, layout, when}
use Rattle.md_meaning.specs.Meaning.At.{Defined, Footnote, Context, Found, nothing_found, target_in}
use Rattle.md_meaning.specs.Meaning.At.{Before, At, identifier_of}
use Rattle.md_meaning.specs.Meaning.Before.{before_children, lets_slurp}
use Rattle.md_meaning.specs.Meaning.Means.{prints}

-- the meaning of nodes: their pieces, what their spine contains, the calls, the definitions and the
-- footnotes in the order of their exits, and whether the next line ending is slurped after them
pub record Outcome : Type 0 where
  pub pieces : List Piece
  pub found : Found
  pub calls : List (List ℕ)
  pub definitions : List Defined
  pub footnotes : List Footnote
  pub slurps : Bool

-- two meanings in sequence; of each thing on the spine the last one counts
abbrev pub both : Outcome → Outcome → Outcome
both first later = record {
  pieces = first.pieces ++ later.pieces;
  found = record {
    heading = or_else later.found.heading first.found.heading;
    destination = or_else later.found.destination first.found.destination;
    title = or_else later.found.title first.found.title;
    resource = or_else later.found.resource first.found.resource;
  };
  calls = first.calls ++ later.calls;
  definitions = first.definitions ++ later.definitions;
  footnotes = first.footnotes ++ later.footnotes;
  slurps = later.slurps;
}

-- what a node adds to its parent's spine: itself, or, if it is transparent, what its children add
abbrev pub found_at : At → Name → List ℕ → Found
found_at at HeadingSetextText text = record nothing_found { heading = Some text }
found_at at DefinitionDestinationString text = record nothing_found { destination = Some text }
found_at at ResourceDestinationString text = record nothing_found { destination = Some text }
found_at at DefinitionTitleString text = record nothing_found { title = Some text }
found_at at ResourceTitleString text = record nothing_found { title = Some text }
found_at at Resource text = record nothing_found { resource = Some (target_in at.found) }
found_at at name text = if is_transparent name then at.found else nothing_found

-- the meaning of a node, from the meaning of its children; a call, a definition and a footnote have
-- the identifiers of their labels
abbrev pub node : Context → At → Name → Outcome → Outcome
node context at name inner =
    let text = layout context.ending inner.pieces in
    let identifier = identifier_of context.bytes at.children in
    record {
      pieces = prints context at name inner.pieces;
      found = found_at at name text;
      calls = inner.calls ++ when (is GfmFootnoteCall name) (identifier ∷ []);
      definitions = inner.definitions ++ when (is Definition name)
          (record { identifier = identifier; target = target_in at.found } ∷ []);
      footnotes = inner.footnotes ++ when (is GfmFootnoteDefinition name)
          (record { identifier = identifier; text = text } ∷ []);
      slurps = if at.around.in_definition then inner.slurps else lets_slurp at name inner.slurps;
    }

-- the state before the next sibling of a node with this meaning
abbrev pub before_next : At → Name → Outcome → Before
before_next at name here = record at.before {
  calls = at.before.calls ++ here.calls;
  slurps = here.slurps;
  previous = Some name;
  spine = at.before.spine ++ (if is_transparent name then spine_names at.children else name ∷ []);
  heading = unwrap_or here.found.heading at.before.heading;
}

-- a node, followed by later nodes
abbrev pub continued : At → Name → Outcome → (Before → Outcome) → Outcome
continued at name here later = both here (later (before_next at name here))

-- the meaning of nodes, from their ancestors' facts and the state before them
abbrev pub outcome : Context → Surroundings → Before → Forest → Outcome
outcome context around before Empty = record {
  pieces = [];
  found = nothing_found;
  calls = [];
  definitions = [];
  footnotes = [];
  slurps = before.slurps;
}
outcome context around before (Node name start end children rest) =
    let inner = outcome context (inside context.options (is_loose children) name around)
    (before_children name children before) children in
    let at : At = record {
      around = around;
      before = before;
      children = children;
      found = inner.found;
      calls = before.calls ++ inner.calls;
      place = place start end;
      is_last = around.is_outermost && is_empty rest;
    }
    in
    continued at name (node context at name inner) (λ next. outcome context around next rest)
