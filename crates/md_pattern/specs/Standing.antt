-- The class of each name in the grammar: the one table of names.
use Rattle.md_base.specs.declared.event.Name.{Name}
use Rattle.md_base.specs.declared.event.Name.TheVariants as name_variants
use name_variants.{AutolinkEmail, AutolinkProtocol, GfmAutolinkLiteralEmail}
use name_variants.{GfmAutolinkLiteralMailto, GfmAutolinkLiteralProtocol, GfmAutolinkLiteralWww}
use name_variants.{GfmAutolinkLiteralXmpp, LineEnding, BlankLineEnding, BlockQuote}
use name_variants.{BlockQuotePrefix, ListOrdered, ListUnordered, ListItem, ListItemPrefix}
use name_variants.{ListItemValue, ListItemMarker, GfmFootnoteDefinition}
use name_variants.{GfmFootnoteDefinitionPrefix, GfmFootnoteDefinitionLabelString, Data}
use name_variants.{CharacterEscapeValue, CharacterReferenceMarker, CharacterReferenceMarkerNumeric}
use name_variants.{CharacterReferenceMarkerHexadecimal, CharacterReferenceValue, CodeIndented}
use name_variants.{CodeFenced, CodeFencedFence, CodeFencedFenceInfo, CodeFencedFenceMeta}
use name_variants.{CodeFlowChunk, MathFlow, MathFlowFence, MathFlowFenceMeta, MathFlowChunk}
use name_variants.{CodeText, CodeTextData, MathText, MathTextData, HtmlFlow, HtmlFlowData, HtmlText}
use name_variants.{HtmlTextData, Definition, DefinitionLabelString, DefinitionDestinationString}
use name_variants.{DefinitionTitleString, Link, Image, Label, LabelText, Resource}
use name_variants.{ResourceDestinationString, ResourceTitleString, ReferenceString, GfmFootnoteCall}
use name_variants.{HeadingAtx, HeadingAtxSequence, HeadingAtxText, HeadingSetextText}
use name_variants.{HeadingSetextUnderlineSequence, GfmTable, GfmTableHead, GfmTableBody}
use name_variants.{GfmTableRow, GfmTableCell, GfmTableDelimiterRow, GfmTableDelimiterCellValue}
use name_variants.{GfmTableDelimiterMarker, Emphasis, Strong, GfmStrikethrough}
use name_variants.{GfmTaskListItemCheck, GfmTaskListItemValueChecked, HardBreakEscape}
use name_variants.{HardBreakTrailing, Paragraph, ThematicBreak, Frontmatter, SpaceOrTab, Other}
use name_variants.{MdxEsm, MdxFlowExpression, MdxTextExpression, MdxJsxFlowTag, MdxJsxTextTag}
use Rattle.md_pattern.specs.declared.kinds.Symbol.TheVariants as symbol
use Rattle.md_pattern.specs.declared.kinds.Role.TheVariants as role
use Rattle.md_pattern.specs.declared.kinds.Reading.TheVariants as reading
use Rattle.md_pattern.specs.declared.kinds.Standing.{Standing}
use Rattle.md_pattern.specs.declared.kinds.Standing.TheVariants.{Through, Space, Solid, Mdx}

-- the class of a name: its symbol in patterns, the usual role of its spine, and what is read of it
abbrev pub standing_of : Name → Standing
standing_of AutolinkEmail = Solid symbol.Span role.Empty reading.Text
standing_of AutolinkProtocol = Solid symbol.Span role.Empty reading.Text
standing_of GfmAutolinkLiteralEmail = Solid symbol.Span role.Empty reading.Text
standing_of GfmAutolinkLiteralMailto = Solid symbol.Span role.Empty reading.Text
standing_of GfmAutolinkLiteralProtocol = Solid symbol.Span role.Empty reading.Text
standing_of GfmAutolinkLiteralWww = Solid symbol.Span role.Empty reading.Text
standing_of GfmAutolinkLiteralXmpp = Solid symbol.Span role.Empty reading.Text
standing_of LineEnding = Solid symbol.LineEnding role.Childless reading.LineEnding
standing_of BlankLineEnding = Solid symbol.BlankLineEnding role.Childless reading.LineEnding
standing_of BlockQuote = Solid symbol.Block role.Flow reading.Free
standing_of BlockQuotePrefix = Through
standing_of ListOrdered = Solid symbol.Block role.OrderedList reading.Free
standing_of ListUnordered = Solid symbol.Block role.UnorderedList reading.Free
standing_of ListItem = Solid symbol.ListItem role.Item reading.Free
standing_of ListItemPrefix = Solid symbol.ListItemPrefix role.Prefix reading.Free
standing_of ListItemValue = Solid symbol.ListItemValue role.Empty reading.Number
standing_of ListItemMarker = Solid symbol.ListItemMarker role.Empty reading.Free
standing_of GfmFootnoteDefinition =
    Solid symbol.Block role.FootnoteDefinition reading.FootnoteDefinition
standing_of GfmFootnoteDefinitionPrefix =
    Solid symbol.FootnotePrefix role.FootnotePrefix reading.Holder
standing_of GfmFootnoteDefinitionLabelString =
    Solid symbol.FootnoteLabel role.String reading.Identifier
standing_of Data = Solid symbol.Text role.Empty reading.Text
standing_of CharacterEscapeValue = Solid symbol.Text role.Empty reading.Text
standing_of CharacterReferenceMarker = Solid symbol.ReferenceMarker role.Empty reading.Free
standing_of CharacterReferenceMarkerNumeric = Solid symbol.ReferenceNumeric role.Empty reading.Free
standing_of CharacterReferenceMarkerHexadecimal =
    Solid symbol.ReferenceHexadecimal role.Empty reading.Free
standing_of CharacterReferenceValue = Solid symbol.ReferenceValue role.Empty reading.Value
standing_of CodeIndented = Solid symbol.Block role.CodeIndented reading.Free
standing_of CodeFenced = Solid symbol.Block role.CodeFenced reading.Free
standing_of CodeFencedFence = Solid symbol.CodeFence role.CodeFence reading.Free
standing_of CodeFencedFenceInfo = Solid symbol.CodeInfo role.String reading.Free
standing_of CodeFencedFenceMeta = Solid symbol.CodeMeta role.String reading.Free
standing_of CodeFlowChunk = Solid symbol.CodeFlowChunk role.Empty reading.Text
standing_of MathFlow = Solid symbol.Block role.Math reading.Free
standing_of MathFlowFence = Solid symbol.MathFence role.MathFence reading.Free
standing_of MathFlowFenceMeta = Solid symbol.MathMeta role.String reading.Free
standing_of MathFlowChunk = Solid symbol.MathFlowChunk role.Empty reading.Text
standing_of CodeText = Solid symbol.Span role.CodeText reading.Free
standing_of CodeTextData = Solid symbol.CodeTextData role.Empty reading.Text
standing_of MathText = Solid symbol.Span role.MathText reading.Free
standing_of MathTextData = Solid symbol.MathTextData role.Empty reading.Text
standing_of HtmlFlow = Solid symbol.Block role.HtmlFlow reading.Free
standing_of HtmlFlowData = Solid symbol.HtmlFlowData role.Empty reading.Text
standing_of HtmlText = Solid symbol.Span role.HtmlText reading.Free
standing_of HtmlTextData = Solid symbol.HtmlTextData role.Empty reading.Text
standing_of Definition = Solid symbol.Block role.Definition reading.Definition
standing_of DefinitionLabelString = Solid symbol.DefinitionLabel role.String reading.Identifier
standing_of DefinitionDestinationString =
    Solid symbol.DefinitionDestination role.String reading.Free
standing_of DefinitionTitleString = Solid symbol.DefinitionTitle role.String reading.Free
standing_of Link = Solid symbol.Span role.Media reading.Media
standing_of Image = Solid symbol.Span role.Media reading.Media
standing_of Label = Solid symbol.Label role.Label reading.Holder
standing_of LabelText = Solid symbol.LabelText role.Phrasing reading.Identifier
standing_of Resource = Solid symbol.Resource role.Resource reading.Resource
standing_of ResourceDestinationString = Solid symbol.ResourceDestination role.String reading.Free
standing_of ResourceTitleString = Solid symbol.ResourceTitle role.String reading.Free
standing_of ReferenceString = Solid symbol.ReferenceString role.String reading.Identifier
standing_of GfmFootnoteCall = Solid symbol.Span role.FootnoteCall reading.Call
standing_of HeadingAtx = Solid symbol.Block role.Heading reading.Free
standing_of HeadingAtxSequence = Solid symbol.HeadingSequence role.Empty reading.Mark
standing_of HeadingAtxText = Solid symbol.HeadingText role.Phrasing reading.Free
standing_of HeadingSetextText = Solid symbol.SetextText role.Phrasing reading.Free
standing_of HeadingSetextUnderlineSequence =
    Solid symbol.SetextUnderline role.Empty reading.Underline
standing_of GfmTable = Solid symbol.Block role.Table reading.Free
standing_of GfmTableHead = Solid symbol.TableHead role.TableHead reading.Free
standing_of GfmTableBody = Solid symbol.TableBody role.TableBody reading.Free
standing_of GfmTableRow = Solid symbol.TableRow role.TableRow reading.Free
standing_of GfmTableCell = Solid symbol.TableCell role.Phrasing reading.Free
standing_of GfmTableDelimiterRow =
    Solid symbol.TableDelimiterRow role.TableDelimiterRow reading.Free
standing_of GfmTableDelimiterCellValue =
    Solid symbol.TableDelimiterValue role.TableDelimiterValue reading.Free
standing_of GfmTableDelimiterMarker = Solid symbol.TableDelimiterMarker role.Empty reading.Free
standing_of Emphasis = Solid symbol.Span role.Phrasing reading.Free
standing_of Strong = Solid symbol.Span role.Phrasing reading.Free
standing_of GfmStrikethrough = Solid symbol.Span role.Phrasing reading.Free
standing_of GfmTaskListItemCheck = Solid symbol.Span role.TaskCheck reading.Free
standing_of GfmTaskListItemValueChecked = Solid symbol.TaskChecked role.Empty reading.Free
standing_of HardBreakEscape = Solid symbol.Span role.Empty reading.Free
standing_of HardBreakTrailing = Solid symbol.Span role.Empty reading.Free
standing_of Paragraph = Solid symbol.Block role.Phrasing reading.Free
standing_of ThematicBreak = Solid symbol.Block role.Empty reading.Free
standing_of Frontmatter = Solid symbol.Block role.Frontmatter reading.Free
standing_of SpaceOrTab = Space
standing_of (Other _) = Through
standing_of MdxEsm = Mdx
standing_of MdxFlowExpression = Mdx
standing_of MdxTextExpression = Mdx
standing_of MdxJsxFlowTag = Mdx
standing_of MdxJsxTextTag = Mdx
