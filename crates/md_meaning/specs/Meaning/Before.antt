-- The state before a node, and when the next line ending is slurped.
use Rattle.std.specs.Prelude.{Bool, false, not, ◌&&◌, ◌||◌, if◌then◌else◌, [], None}
use Rattle.std.specs.List.{list_any}
use Rattle.md_base.specs.declared.event.Name.{Name}
use Rattle.md_base.specs.declared.event.Name.TheVariants as name_variants
use name_variants.{LineEnding, BlankLineEnding, BlockQuote, ListItem, CodeIndented, CodeFenced}
use name_variants.{GfmTable, MathFlow, HeadingSetextText, Paragraph, Frontmatter}
use Rattle.md_base.specs.NameTests.{is_fence, is_transparent}
use Rattle.md_base.specs.Is.{is}
use Rattle.md_base.specs.Tree.{Forest}
use Rattle.md_pattern.specs.Alignments.{alignments}
use Rattle.md_meaning.specs.Meaning.Inherited.{is_tight}
use Rattle.md_meaning.specs.Meaning.At.{Before, At}

-- the first fence of a raw flow
abbrev pub is_first_fence : At → Bool
is_first_fence at = not (list_any is_fence at.before.spine)

-- after a node outside definitions the next line ending is slurped: the node's exit sets this, or
-- it was set after the node's children and its exit doesn't clear it
abbrev pub lets_slurp : At → Name → Bool → Bool
lets_slurp at name inner =
    is_fence name && is_first_fence at || is HeadingSetextText name || is Frontmatter name
    || is Paragraph name && is_tight at.around.container || inner && not (is BlankLineEnding name
    || is BlockQuote name || is CodeIndented name || is CodeFenced name
    || is MathFlow name || is ListItem name || is LineEnding name && not at.around.in_code)

-- the state before all nodes
abbrev pub nothing_before : Before
nothing_before =
    record { calls = []; slurps = false; previous = None; spine = []; heading = []; columns = [] }

-- the state before a node's first child
abbrev pub before_children : Name → Forest → Before → Before
before_children name children before = record before {
  previous = None;
  spine = if is_transparent name then before.spine else [];
  heading = if is_transparent name then before.heading else [];
  columns = if is GfmTable name then alignments children else before.columns;
}
