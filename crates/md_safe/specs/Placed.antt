-- The content of each node's children, and the names that it allows. Only proofs use it: each
-- document of the grammar fulfils it.
use Rattle.std.specs.Prelude.{◌≡◌, Bool, true, false, ◌||◌, if◌then◌else◌}
use Rattle.md_base.specs.declared.event.Name.{Name}
use Rattle.md_base.specs.declared.event.Name.TheVariants as name_variants
use name_variants.{LineEnding, BlankLineEnding, BlockQuote, ListOrdered, ListUnordered, ListItem}
use name_variants.{GfmFootnoteDefinition, CodeIndented, CodeFenced, CodeFlowChunk, MathFlow}
use name_variants.{HtmlFlow, Definition, HeadingAtx, HeadingSetextText}
use name_variants.{HeadingSetextUnderlineSequence, GfmTable, GfmTableHead, GfmTableBody}
use name_variants.{GfmTableRow, GfmTableCell, GfmTableDelimiterRow, Paragraph, ThematicBreak}
use name_variants.{Frontmatter}
use Rattle.md_base.specs.Tree.{Forest, Empty, Node}
use Rattle.md_base.specs.NameTests.{is_transparent}
use Rattle.md_safe.specs.Contents.{Content, Flow, Phrasing, Linked, Items, Parts, Rows, Cells}
use Rattle.md_safe.specs.Contents.{Preformatted, Characters}

-- the sort of a name for its parent: a block, an item, a table's part, a row, a cell, a line
-- ending, a line of code, the row of delimiters, or anything else
pub data Sort : Type 0 where
  Block : Sort
  Item : Sort
  Part : Sort
  Row : Sort
  Cell : Sort
  Ending : Sort
  Chunk : Sort
  Delimiters : Sort
  Inline : Sort

abbrev pub sort_of : Name → Sort
sort_of name = elim name [
  | BlockQuote ↦ Block
  | ListOrdered ↦ Block
  | ListUnordered ↦ Block
  | GfmFootnoteDefinition ↦ Block
  | CodeIndented ↦ Block
  | CodeFenced ↦ Block
  | MathFlow ↦ Block
  | HtmlFlow ↦ Block
  | Definition ↦ Block
  | HeadingAtx ↦ Block
  | HeadingSetextText ↦ Block
  | HeadingSetextUnderlineSequence ↦ Block
  | GfmTable ↦ Block
  | Paragraph ↦ Block
  | ThematicBreak ↦ Block
  | Frontmatter ↦ Block
  | ListItem ↦ Item
  | GfmTableHead ↦ Part
  | GfmTableBody ↦ Part
  | GfmTableRow ↦ Row
  | GfmTableCell ↦ Cell
  | LineEnding ↦ Ending
  | BlankLineEnding ↦ Ending
  | CodeFlowChunk ↦ Chunk
  | GfmTableDelimiterRow ↦ Delimiters
  | _ ↦ Inline
]

-- an item, or a part of a table
abbrev pub is_inner : Sort → Bool
is_inner sort = elim sort [ Item ↦ true | Part ↦ true | Row ↦ true | Cell ↦ true | _ ↦ false ]

-- a content allows a sort of child
abbrev pub may_stand : Content → Sort → Bool
may_stand Flow sort = if is_inner sort then false else true
may_stand Phrasing sort = if is_inner sort then false else elim sort [ Block ↦ false | _ ↦ true ]
may_stand Linked sort = false
may_stand Items sort = elim sort [ Item ↦ true | Ending ↦ true | _ ↦ false ]
may_stand Parts sort = elim sort [ Part ↦ true | Ending ↦ true | _ ↦ false ]
may_stand Rows sort = elim sort [ Row ↦ true | Ending ↦ true | Delimiters ↦ true | _ ↦ false ]
may_stand Cells sort = elim sort [ Cell ↦ true | _ ↦ false ]
may_stand Preformatted sort = false
may_stand Characters sort = elim sort [ Chunk ↦ true | Ending ↦ true | _ ↦ false ]

-- the content of a node's children
abbrev pub place_of : Name → Content
place_of name = elim name [
  | BlockQuote ↦ Flow
  | ListItem ↦ Flow
  | GfmFootnoteDefinition ↦ Flow
  | ListOrdered ↦ Items
  | ListUnordered ↦ Items
  | GfmTable ↦ Parts
  | GfmTableHead ↦ Rows
  | GfmTableBody ↦ Rows
  | GfmTableRow ↦ Cells
  | CodeIndented ↦ Characters
  | _ ↦ Phrasing
]

abbrev pub place_inside : Content → Name → Content
place_inside content name = if is_transparent name then content else place_of name

-- a content allows each of some nodes
abbrev pub IsPlaced : Content → Forest → Type 0
IsPlaced content Empty = Unit {0}
IsPlaced content (Node name start end children rest) =
    ((is_transparent name || may_stand content (sort_of name)) ≡ true)
    × IsPlaced (place_inside content name) children × IsPlaced content rest
