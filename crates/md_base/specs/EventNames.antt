-- The names of events, as scripts write them.
-- Written by bench/lists/names.py from clients/numbers/numbers.txt. Don't edit it.
use Rattle.std.specs.Prelude.{ℕ, List, [], ◌∷◌, codes}
use Rattle.md_base.specs.declared.event.Name.{Name}
use Rattle.md_base.specs.declared.event.Name.TheVariants as name_variants
use name_variants.{AutolinkEmail, AutolinkProtocol, GfmAutolinkLiteralEmail}
use name_variants.{GfmAutolinkLiteralMailto, GfmAutolinkLiteralProtocol, GfmAutolinkLiteralWww}
use name_variants.{GfmAutolinkLiteralXmpp, LineEnding, BlankLineEnding, BlockQuote}
use name_variants.{BlockQuotePrefix, ListOrdered, ListUnordered, ListItem, ListItemPrefix}
use name_variants.{ListItemValue, ListItemMarker, GfmFootnoteDefinition}
use name_variants.{GfmFootnoteDefinitionPrefix, GfmFootnoteDefinitionLabelString, Data}
use name_variants.{CharacterEscapeValue, CharacterReferenceMarker, CharacterReferenceMarkerNumeric}
use name_variants.{CharacterReferenceMarkerHexadecimal, CharacterReferenceValue, CodeIndented}
use name_variants.{CodeFenced, CodeFencedFence, CodeFencedFenceInfo, CodeFencedFenceMeta}
use name_variants.{CodeFlowChunk, MathFlow, MathFlowFence, MathFlowFenceMeta, MathFlowChunk}
use name_variants.{CodeText, CodeTextData, MathText, MathTextData, HtmlFlow, HtmlFlowData, HtmlText}
use name_variants.{HtmlTextData, Definition, DefinitionLabelString, DefinitionDestinationString}
use name_variants.{DefinitionTitleString, Link, Image, Label, LabelText, Resource}
use name_variants.{ResourceDestinationString, ResourceTitleString, ReferenceString, GfmFootnoteCall}
use name_variants.{HeadingAtx, HeadingAtxSequence, HeadingAtxText, HeadingSetextText}
use name_variants.{HeadingSetextUnderlineSequence, GfmTable, GfmTableHead, GfmTableBody}
use name_variants.{GfmTableRow, GfmTableCell, GfmTableDelimiterRow, GfmTableDelimiterCellValue}
use name_variants.{GfmTableDelimiterMarker, Emphasis, Strong, GfmStrikethrough}
use name_variants.{GfmTaskListItemCheck, GfmTaskListItemValueChecked, HardBreakEscape}
use name_variants.{HardBreakTrailing, Paragraph, ThematicBreak, Frontmatter, SpaceOrTab, MdxEsm}
use name_variants.{MdxFlowExpression, MdxTextExpression, MdxJsxFlowTag, MdxJsxTextTag}

-- each name but `Other`, under its spelling, in the order of their numbers, from 1
abbrev pub event_names : List (List ℕ × Name)
event_names =
    (codes "AutolinkEmail", AutolinkEmail) ∷
    (codes "AutolinkProtocol", AutolinkProtocol) ∷
    (codes "GfmAutolinkLiteralEmail", GfmAutolinkLiteralEmail) ∷
    (codes "GfmAutolinkLiteralMailto", GfmAutolinkLiteralMailto) ∷
    (codes "GfmAutolinkLiteralProtocol", GfmAutolinkLiteralProtocol) ∷
    (codes "GfmAutolinkLiteralWww", GfmAutolinkLiteralWww) ∷
    (codes "GfmAutolinkLiteralXmpp", GfmAutolinkLiteralXmpp) ∷
    (codes "LineEnding", LineEnding) ∷
    (codes "BlankLineEnding", BlankLineEnding) ∷
    (codes "BlockQuote", BlockQuote) ∷
    (codes "BlockQuotePrefix", BlockQuotePrefix) ∷
    (codes "ListOrdered", ListOrdered) ∷
    (codes "ListUnordered", ListUnordered) ∷
    (codes "ListItem", ListItem) ∷
    (codes "ListItemPrefix", ListItemPrefix) ∷
    (codes "ListItemValue", ListItemValue) ∷
    (codes "ListItemMarker", ListItemMarker) ∷
    (codes "GfmFootnoteDefinition", GfmFootnoteDefinition) ∷
    (codes "GfmFootnoteDefinitionPrefix", GfmFootnoteDefinitionPrefix) ∷
    (codes "GfmFootnoteDefinitionLabelString", GfmFootnoteDefinitionLabelString) ∷
    (codes "Data", Data) ∷
    (codes "CharacterEscapeValue", CharacterEscapeValue) ∷
    (codes "CharacterReferenceMarker", CharacterReferenceMarker) ∷
    (codes "CharacterReferenceMarkerNumeric", CharacterReferenceMarkerNumeric) ∷
    (codes "CharacterReferenceMarkerHexadecimal", CharacterReferenceMarkerHexadecimal) ∷
    (codes "CharacterReferenceValue", CharacterReferenceValue) ∷
    (codes "CodeIndented", CodeIndented) ∷
    (codes "CodeFenced", CodeFenced) ∷
    (codes "CodeFencedFence", CodeFencedFence) ∷
    (codes "CodeFencedFenceInfo", CodeFencedFenceInfo) ∷
    (codes "CodeFencedFenceMeta", CodeFencedFenceMeta) ∷
    (codes "CodeFlowChunk", CodeFlowChunk) ∷
    (codes "MathFlow", MathFlow) ∷
    (codes "MathFlowFence", MathFlowFence) ∷
    (codes "MathFlowFenceMeta", MathFlowFenceMeta) ∷
    (codes "MathFlowChunk", MathFlowChunk) ∷
    (codes "CodeText", CodeText) ∷
    (codes "CodeTextData", CodeTextData) ∷
    (codes "MathText", MathText) ∷
    (codes "MathTextData", MathTextData) ∷
    (codes "HtmlFlow", HtmlFlow) ∷
    (codes "HtmlFlowData", HtmlFlowData) ∷
    (codes "HtmlText", HtmlText) ∷
    (codes "HtmlTextData", HtmlTextData) ∷
    (codes "Definition", Definition) ∷
    (codes "DefinitionLabelString", DefinitionLabelString) ∷
    (codes "DefinitionDestinationString", DefinitionDestinationString) ∷
    (codes "DefinitionTitleString", DefinitionTitleString) ∷
    (codes "Link", Link) ∷
    (codes "Image", Image) ∷
    (codes "Label", Label) ∷
    (codes "LabelText", LabelText) ∷
    (codes "Resource", Resource) ∷
    (codes "ResourceDestinationString", ResourceDestinationString) ∷
    (codes "ResourceTitleString", ResourceTitleString) ∷
    (codes "ReferenceString", ReferenceString) ∷
    (codes "GfmFootnoteCall", GfmFootnoteCall) ∷
    (codes "HeadingAtx", HeadingAtx) ∷
    (codes "HeadingAtxSequence", HeadingAtxSequence) ∷
    (codes "HeadingAtxText", HeadingAtxText) ∷
    (codes "HeadingSetextText", HeadingSetextText) ∷
    (codes "HeadingSetextUnderlineSequence", HeadingSetextUnderlineSequence) ∷
    (codes "GfmTable", GfmTable) ∷
    (codes "GfmTableHead", GfmTableHead) ∷
    (codes "GfmTableBody", GfmTableBody) ∷
    (codes "GfmTableRow", GfmTableRow) ∷
    (codes "GfmTableCell", GfmTableCell) ∷
    (codes "GfmTableDelimiterRow", GfmTableDelimiterRow) ∷
    (codes "GfmTableDelimiterCellValue", GfmTableDelimiterCellValue) ∷
    (codes "GfmTableDelimiterMarker", GfmTableDelimiterMarker) ∷
    (codes "Emphasis", Emphasis) ∷
    (codes "Strong", Strong) ∷
    (codes "GfmStrikethrough", GfmStrikethrough) ∷
    (codes "GfmTaskListItemCheck", GfmTaskListItemCheck) ∷
    (codes "GfmTaskListItemValueChecked", GfmTaskListItemValueChecked) ∷
    (codes "HardBreakEscape", HardBreakEscape) ∷
    (codes "HardBreakTrailing", HardBreakTrailing) ∷
    (codes "Paragraph", Paragraph) ∷
    (codes "ThematicBreak", ThematicBreak) ∷
    (codes "Frontmatter", Frontmatter) ∷
    (codes "SpaceOrTab", SpaceOrTab) ∷
    (codes "MdxEsm", MdxEsm) ∷
    (codes "MdxFlowExpression", MdxFlowExpression) ∷
    (codes "MdxTextExpression", MdxTextExpression) ∷
    (codes "MdxJsxFlowTag", MdxJsxFlowTag) ∷
    (codes "MdxJsxTextTag", MdxJsxTextTag) ∷
    []
