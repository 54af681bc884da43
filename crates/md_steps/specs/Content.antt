-- The content that each place allows, by names: the part of the grammar on which the printer
-- relies. Only proofs use it.
use Rattle.std.specs.Prelude.{◌≡◌, Bool, true, false, ◌||◌, not, ◌&&◌, if◌then◌else◌}
use Rattle.md_base.specs.declared.event.Name.{Name}
use Rattle.md_base.specs.declared.event.Name.TheVariants as name_variants
use name_variants.{AutolinkEmail, AutolinkProtocol, GfmAutolinkLiteralEmail}
use name_variants.{GfmAutolinkLiteralMailto, GfmAutolinkLiteralProtocol, GfmAutolinkLiteralWww}
use name_variants.{GfmAutolinkLiteralXmpp, LineEnding, BlankLineEnding, BlockQuote, ListOrdered}
use name_variants.{ListUnordered, ListItem, ListItemPrefix, ListItemValue, ListItemMarker}
use name_variants.{GfmFootnoteDefinition, GfmFootnoteDefinitionPrefix}
use name_variants.{GfmFootnoteDefinitionLabelString, Data, CharacterEscapeValue}
use name_variants.{CharacterReferenceMarker, CharacterReferenceMarkerNumeric}
use name_variants.{CharacterReferenceMarkerHexadecimal, CharacterReferenceValue, CodeIndented}
use name_variants.{CodeFenced, CodeFencedFence, CodeFencedFenceInfo, CodeFencedFenceMeta}
use name_variants.{CodeFlowChunk, MathFlow, MathFlowFence, MathFlowFenceMeta, MathFlowChunk}
use name_variants.{CodeText, CodeTextData, MathText, MathTextData, HtmlFlow, HtmlFlowData, HtmlText}
use name_variants.{HtmlTextData, Definition, DefinitionLabelString, DefinitionDestinationString}
use name_variants.{DefinitionTitleString, Link, Image, Label, LabelText, Resource}
use name_variants.{ResourceDestinationString, ResourceTitleString, ReferenceString, GfmFootnoteCall}
use name_variants.{HeadingAtx, HeadingAtxSequence, HeadingAtxText, HeadingSetextText}
use name_variants.{HeadingSetextUnderlineSequence, GfmTable, GfmTableHead, GfmTableBody}
use name_variants.{GfmTableRow, GfmTableCell, GfmTableDelimiterRow, GfmTableDelimiterCellValue}
use name_variants.{GfmTableDelimiterMarker, Emphasis, Strong, GfmStrikethrough}
use name_variants.{GfmTaskListItemCheck, GfmTaskListItemValueChecked, HardBreakEscape}
use name_variants.{HardBreakTrailing, Paragraph, ThematicBreak, Frontmatter}
use Rattle.md_base.specs.Tree.{Forest, Empty, Node}
use Rattle.md_base.specs.NameTests.{is_transparent, is_label_text, is_label}

-- the kinds of content: blocks, and spans between them; spans; strings; lines of HTML; lines of
-- code, and fences; the texts of a fence; a label, and what comes after it; targets and labels;
-- rows; cells; parts of headings, items, tasks and delimiter rows; only transparent nodes; nothing
-- at all
pub data Content : Type 0 where
  Blocks : Content
  Spans : Content
  Strings : Content
  Html : Content
  Lines : Content
  Fences : Content
  BeforeLabel : Content
  AfterLabel : Content
  Sources : Content
  Rows : Content
  Cells : Content
  Parts : Content
  Nothing : Content
  Childless : Content

abbrev pub is_string : Name → Bool
is_string name = elim name [
  | LineEnding ↦ true
  | Data ↦ true
  | CharacterEscapeValue ↦ true
  | CharacterReferenceMarker ↦ true
  | CharacterReferenceMarkerNumeric ↦ true
  | CharacterReferenceMarkerHexadecimal ↦ true
  | CharacterReferenceValue ↦ true
  | _ ↦ false
]

abbrev pub is_span : Name → Bool
is_span name = elim name [
  | AutolinkEmail ↦ true
  | AutolinkProtocol ↦ true
  | GfmAutolinkLiteralEmail ↦ true
  | GfmAutolinkLiteralMailto ↦ true
  | GfmAutolinkLiteralProtocol ↦ true
  | GfmAutolinkLiteralWww ↦ true
  | GfmAutolinkLiteralXmpp ↦ true
  | CodeText ↦ true
  | MathText ↦ true
  | HtmlText ↦ true
  | Link ↦ true
  | Image ↦ true
  | GfmFootnoteCall ↦ true
  | Emphasis ↦ true
  | Strong ↦ true
  | GfmStrikethrough ↦ true
  | GfmTaskListItemCheck ↦ true
  | HardBreakEscape ↦ true
  | HardBreakTrailing ↦ true
  | _ ↦ false
]

abbrev pub is_block : Name → Bool
is_block name = elim name [
  | BlockQuote ↦ true
  | ListOrdered ↦ true
  | ListUnordered ↦ true
  | ListItem ↦ true
  | ListItemPrefix ↦ true
  | GfmFootnoteDefinition ↦ true
  | GfmFootnoteDefinitionPrefix ↦ true
  | CodeIndented ↦ true
  | CodeFenced ↦ true
  | MathFlow ↦ true
  | HtmlFlow ↦ true
  | Definition ↦ true
  | HeadingAtx ↦ true
  | HeadingSetextText ↦ true
  | HeadingSetextUnderlineSequence ↦ true
  | GfmTable ↦ true
  | Paragraph ↦ true
  | ThematicBreak ↦ true
  | Frontmatter ↦ true
  | BlankLineEnding ↦ true
  | _ ↦ false
]

abbrev pub is_code_data : Name → Bool
is_code_data name = elim name [ CodeTextData ↦ true | MathTextData ↦ true | _ ↦ false ]

abbrev pub is_html : Name → Bool
is_html name = elim name [
  | LineEnding ↦ true
  | BlankLineEnding ↦ true
  | HtmlFlowData ↦ true
  | HtmlTextData ↦ true
  | _ ↦ false
]

abbrev pub is_line : Name → Bool
is_line name = elim name [
  | LineEnding ↦ true
  | BlankLineEnding ↦ true
  | CodeFlowChunk ↦ true
  | MathFlowChunk ↦ true
  | CodeFencedFence ↦ true
  | MathFlowFence ↦ true
  | _ ↦ false
]

abbrev pub is_said_by_fence : Name → Bool
is_said_by_fence name = elim name [
  | CodeFencedFenceInfo ↦ true
  | CodeFencedFenceMeta ↦ true
  | MathFlowFenceMeta ↦ true
  | _ ↦ false
]

abbrev pub is_after_label : Name → Bool
is_after_label name = elim name [ Resource ↦ true | ReferenceString ↦ true | _ ↦ false ]

abbrev pub is_source : Name → Bool
is_source name = elim name [
  | LineEnding ↦ true
  | DefinitionLabelString ↦ true
  | DefinitionDestinationString ↦ true
  | DefinitionTitleString ↦ true
  | GfmFootnoteDefinitionLabelString ↦ true
  | ResourceDestinationString ↦ true
  | ResourceTitleString ↦ true
  | _ ↦ false
]

abbrev pub is_in_table : Name → Bool
is_in_table name = elim name [
  | LineEnding ↦ true
  | GfmTableHead ↦ true
  | GfmTableBody ↦ true
  | GfmTableRow ↦ true
  | GfmTableDelimiterRow ↦ true
  | _ ↦ false
]

abbrev pub may_be_cell : Name → Bool
may_be_cell name = elim name [ GfmTableCell ↦ true | _ ↦ false ]

abbrev pub is_part : Name → Bool
is_part name = elim name [
  | HeadingAtxSequence ↦ true
  | HeadingAtxText ↦ true
  | ListItemValue ↦ true
  | ListItemMarker ↦ true
  | GfmTableDelimiterCellValue ↦ true
  | GfmTableDelimiterMarker ↦ true
  | GfmTaskListItemValueChecked ↦ true
  | _ ↦ false
]

-- a content allows a name that isn't transparent
abbrev pub may_stand : Content → Name → Bool
may_stand Blocks name = is_block name || (is_span name || is_string name)
may_stand Spans name = is_span name || (is_string name || is_label_text name)
may_stand Strings name = is_string name || is_code_data name
may_stand Html name = is_html name
may_stand Lines name = is_line name
may_stand Fences name = is_said_by_fence name
may_stand BeforeLabel name = is_label name
may_stand AfterLabel name = is_after_label name
may_stand Sources name = is_source name
may_stand Rows name = is_in_table name
may_stand Cells name = may_be_cell name
may_stand Parts name = is_part name
may_stand Nothing name = false
may_stand Childless name = false

-- the content of a node that isn't transparent
abbrev pub content_of : Name → Content
content_of name = elim name [
  | LineEnding ↦ Childless
  | BlankLineEnding ↦ Childless
  | BlockQuote ↦ Blocks
  | ListOrdered ↦ Blocks
  | ListUnordered ↦ Blocks
  | ListItem ↦ Blocks
  | GfmFootnoteDefinition ↦ Blocks
  | ListItemPrefix ↦ Parts
  | HeadingAtx ↦ Parts
  | GfmTaskListItemCheck ↦ Parts
  | GfmTableDelimiterRow ↦ Parts
  | GfmTableDelimiterCellValue ↦ Parts
  | HeadingAtxText ↦ Spans
  | HeadingSetextText ↦ Spans
  | Paragraph ↦ Spans
  | Emphasis ↦ Spans
  | Strong ↦ Spans
  | GfmStrikethrough ↦ Spans
  | Label ↦ Spans
  | LabelText ↦ Spans
  | GfmTableCell ↦ Spans
  | Link ↦ BeforeLabel
  | Image ↦ BeforeLabel
  | GfmFootnoteCall ↦ BeforeLabel
  | Resource ↦ Sources
  | Definition ↦ Sources
  | GfmFootnoteDefinitionPrefix ↦ Sources
  | CodeText ↦ Strings
  | MathText ↦ Strings
  | CodeFencedFenceInfo ↦ Strings
  | CodeFencedFenceMeta ↦ Strings
  | MathFlowFenceMeta ↦ Strings
  | DefinitionLabelString ↦ Strings
  | DefinitionDestinationString ↦ Strings
  | DefinitionTitleString ↦ Strings
  | GfmFootnoteDefinitionLabelString ↦ Strings
  | ResourceDestinationString ↦ Strings
  | ResourceTitleString ↦ Strings
  | ReferenceString ↦ Strings
  | Frontmatter ↦ Strings
  | HtmlFlow ↦ Html
  | HtmlText ↦ Html
  | CodeIndented ↦ Lines
  | CodeFenced ↦ Lines
  | MathFlow ↦ Lines
  | CodeFencedFence ↦ Fences
  | MathFlowFence ↦ Fences
  | GfmTable ↦ Rows
  | GfmTableHead ↦ Rows
  | GfmTableBody ↦ Rows
  | GfmTableRow ↦ Cells
  | _ ↦ Nothing
]

abbrev pub is_childless : Content → Bool
is_childless content = elim content [ Childless ↦ true | _ ↦ false ]

abbrev pub content_inside : Content → Name → Content
content_inside content name = if is_transparent name then content else content_of name

-- the content allowed after a name that isn't transparent
abbrev pub content_past : Content → Content
content_past content = elim content [ BeforeLabel ↦ AfterLabel | other ↦ other ]

-- the content allowed after some nodes
abbrev pub content_after : Content → Forest → Content
content_after content Empty = content
content_after content (Node name start end children rest) =
    content_after (if is_transparent name then content_after content children
    else content_past content) rest

abbrev pub content_after_node : Content → Name → Forest → Content
content_after_node content name children =
    if is_transparent name then content_after content children else content_past content

-- a content allows a name
abbrev pub is_allowed : Content → Name → Bool
is_allowed content name =
    not (is_childless content) && (is_transparent name || may_stand content name)

-- a content allows some nodes
abbrev pub Fits : Content → Forest → Type 0
Fits content Empty = Unit {0}
Fits content (Node name start end children rest) =
    (is_allowed content name ≡ true)
    × Fits (content_inside content name) children
    × Fits (content_after_node content name children) rest
