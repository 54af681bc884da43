-- For the code alone: the state for which a pass stands.
use Rattle.std.specs.Prelude.{ℕ, List, ◌≡◌, ◌-◌, true, map, drop, take, option_map}
use Rattle.md_lines.specs.declared.line.Line.{Line as Place}
use Rattle.md_lines.specs.Reading.{line_text}
use Rattle.md_blocks.specs.declared.pass.Pass.{Pass}
use Rattle.md_blocks.specs.declared.pass.OpenLeaf.{OpenLeaf}
use Rattle.md_blocks.specs.declared.pass.OpenLeaf.TheVariants as leaf
use Rattle.md_blocks.specs.declared.preamble.FrontMatter.{FrontMatter}
use Rattle.md_blocks.specs.BlockStructure.{lines_defined}
use Rattle.md_blocks.specs.Documents.{Front, lines_of}
use Rattle.md_blocks.specs.Entries.{Line}
use Rattle.md_blocks.specs.LinkDefinitions.{defined_from}
use Rattle.md_blocks.specs.Tapes.{are_whole, line_of, first_text, entries_of}
use Rattle.md_blocks.specs.States.{State, Leaf, NoLeaf, InParagraph, InIndented, InFenced}
use Rattle.md_blocks.specs.States.{InMath, InHtml, InTable}

-- the open leaf with the lines that are pushed for it
abbrev pub leaf_of : OpenLeaf → List Line → Leaf
leaf_of leaf.None lines = NoLeaf
leaf_of leaf.Paragraph lines = InParagraph lines
leaf_of leaf.Indented lines = InIndented lines
leaf_of (leaf.Fenced fence) lines = InFenced fence (first_text lines) (drop 1 lines)
leaf_of (leaf.Math fence) lines = InMath fence (drop 1 lines)
leaf_of (leaf.Html kind) lines = InHtml kind lines
leaf_of (leaf.Table columns) lines = InTable columns lines

-- the lines of the open leaf
abbrev pub leaf_lines : Pass → List Line
leaf_lines pass =
    let leaves = pass.nesting.leaves in
    map (line_of pass.bytes.now) (drop leaves.start leaves.lines.items)

abbrev pub state_of : Pass → State
state_of pass = record {
  entries = entries_of pass.bytes.now pass.nesting.leaves.lines.items pass.nesting.tape.items;
  containers = pass.nesting.stack.items;
  leaf = leaf_of pass.leaf (leaf_lines pass);
  blank = option_map (λ blank. blank.depth) pass.blank_line;
  lacking = pass.missing_cells;
}

-- the lines of the open leaf before the line with an index
abbrev pub lines_to : ℕ → Pass → List Line
lines_to end pass =
    let leaves = pass.nesting.leaves in
    map (line_of pass.bytes.now) (drop leaves.start (take end leaves.lines.items))

-- the texts of a leaf's lines from one of them on, whatever columns belong to the prefixes
abbrev pub texts_from : List ℕ → List Place → ℕ → List (List ℕ)
texts_from bytes lines from = map (line_text bytes) (drop from lines)

-- how many lines of the open paragraph are definitions of links
abbrev pub defined_in : Pass → ℕ
defined_in pass = lines_defined (state_of pass)

-- how many more lines of the leaf are definitions after some step
abbrev pub defined_by : Pass → Pass → ℕ
defined_by before after = after.nesting.leaves.start - before.nesting.leaves.start

-- how many of them are definitions of links, by their texts
abbrev pub defined_to : ℕ → Pass → ℕ
defined_to end pass =
    let leaves = pass.nesting.leaves in
    defined_from 0 (texts_from pass.bytes.now (take end leaves.lines.items) leaves.start)

-- whether no columns of the leaf's lines before the line with an index belong to the prefixes
abbrev pub HasWholeLines : ℕ → Pass → Type 0
HasWholeLines end pass =
    let leaves = pass.nesting.leaves in
    are_whole (drop leaves.start (take end leaves.lines.items)) ≡ true

-- the front matter that the code finds
abbrev pub front_at : List ℕ → FrontMatter → Front
front_at bytes found = record {
  text = take found.ending.start bytes;
  rest = lines_of (drop found.ending.end bytes);
}
