-- The meaning of each node: `inner` are the pieces of its children.
use Rattle.std.specs.Prelude.{not, List, [], ◌∷◌, ◌++◌, if◌then◌else◌, codes}
use Rattle.md_base.specs.declared.event.Name.{Name}
use Rattle.md_base.specs.declared.event.Name.TheVariants as name_variants
use name_variants.{LineEnding, BlankLineEnding, BlockQuote, ListOrdered, ListUnordered, ListItem}
use name_variants.{Data, CharacterEscapeValue, CharacterReferenceValue, CodeIndented, AutolinkEmail}
use name_variants.{AutolinkProtocol, GfmAutolinkLiteralEmail, GfmAutolinkLiteralMailto}
use name_variants.{GfmAutolinkLiteralProtocol, GfmAutolinkLiteralWww, GfmAutolinkLiteralXmpp}
use name_variants.{GfmFootnoteDefinition, GfmFootnoteDefinitionPrefix, GfmFootnoteCall, Definition}
use name_variants.{Link, Image, Resource, ReferenceString, CodeFenced, CodeFencedFence}
use name_variants.{CodeFencedFenceInfo, CodeFencedFenceMeta, CodeFlowChunk, MathFlow, MathFlowFence}
use name_variants.{MathFlowFenceMeta, MathFlowChunk, CodeText, CodeTextData, MathText, MathTextData}
use name_variants.{HtmlFlow, HtmlFlowData, HtmlTextData, GfmTable, GfmTableHead, GfmTableBody}
use name_variants.{GfmTableRow, GfmTableCell, GfmTableDelimiterRow, HeadingAtx, HeadingSetextText}
use name_variants.{HeadingSetextUnderlineSequence, Emphasis, Strong, GfmStrikethrough}
use name_variants.{GfmTaskListItemCheck, GfmTaskListItemValueChecked, HardBreakEscape}
use name_variants.{HardBreakTrailing, Paragraph, ThematicBreak, Frontmatter}
use Rattle.md_meaning.specs.Meaning.Layout.{Piece, Text, Needed, Forced, layout, said, on_own_line}
use Rattle.md_meaning.specs.Meaning.Layout.{when}
use Rattle.md_meaning.specs.Meaning.At.{Context, At, text_in}
use Rattle.md_meaning.specs.Meaning.Inherited.{is_tight}
use Rattle.md_meaning.specs.Meaning.Before.{is_first_fence}
use Rattle.md_meaning.specs.Meaning.Spans.{escaped, reference, line_ending, html, span, task_start}
use Rattle.md_meaning.specs.Meaning.Spans.{code}
use Rattle.md_meaning.specs.Meaning.Blocks.{list_start, ends_in_line, heading, atx_rank}
use Rattle.md_meaning.specs.Meaning.Blocks.{underline_rank, chunk, code_end, fenced}
use Rattle.md_meaning.specs.Meaning.Media.{anchor, picture, medium, autolink, literal}
use Rattle.md_meaning.specs.Meaning.Tables.{cell, row_end}
use Rattle.md_meaning.specs.Meaning.Footnotes.{call}

-- the pieces of a node by its name, from the pieces of its children
abbrev pub prints : Context → At → Name → List Piece → List Piece
prints context at Data inner = escaped at (text_in context.bytes at.place)
prints context at CharacterEscapeValue inner = escaped at (text_in context.bytes at.place)
prints context at CodeTextData inner = escaped at (text_in context.bytes at.place)
prints context at MathTextData inner = escaped at (text_in context.bytes at.place)
prints context at CharacterReferenceValue inner = escaped at (reference context at)
prints context at LineEnding inner = line_ending context at
prints context at BlankLineEnding inner = when at.is_last (Needed ∷ [])
prints context at BlockQuote inner =
    on_own_line (codes "<blockquote>") ++ (inner ++ on_own_line (codes "</blockquote>"))
prints context at ListOrdered inner = on_own_line (codes "<ol") ++ (list_start context at
    ++ (said (codes ">") ++ (inner ++ (Forced ∷ said (codes "</ol>")))))
prints context at ListUnordered inner =
    on_own_line (codes "<ul>") ++ (inner ++ (Forced ∷ said (codes "</ul>")))
prints context at ListItem inner =
    on_own_line (codes "<li>")
    ++ (inner ++ ((if ends_in_line at then [] else Needed ∷ []) ++ said (codes "</li>")))
prints context at Paragraph inner =
    if is_tight at.around.container then inner
    else on_own_line (codes "<p>") ++ (inner ++ said (codes "</p>"))
prints context at HeadingAtx inner = heading (atx_rank at) inner
prints context at HeadingSetextText inner = []
prints context at HeadingSetextUnderlineSequence inner =
    heading (underline_rank context at) (said at.before.heading)
prints context at CodeIndented inner = on_own_line (codes "<pre><code>") ++ (inner ++ code_end at)
prints context at CodeFenced inner = fenced at (codes "<pre><code") inner
prints context at MathFlow inner =
    fenced at (codes "<pre><code class=\"language-math math-display\"") inner
prints context at CodeFencedFence inner = inner ++ when (is_first_fence at) (said (codes ">"))
prints context at MathFlowFence inner = inner ++ when (is_first_fence at) (said (codes ">"))
prints context at CodeFencedFenceInfo inner =
    Text (codes " class=\"language-") ∷ (inner ++ said (codes "\""))
prints context at CodeFencedFenceMeta inner = []
prints context at MathFlowFenceMeta inner = []
prints context at CodeFlowChunk inner = chunk context at
prints context at MathFlowChunk inner = chunk context at
prints context at CodeText inner = code at (codes "<code>") (layout context.ending inner)
prints context at MathText inner =
    code at (codes "<code class=\"language-math math-inline\">") (layout context.ending inner)
prints context at HtmlFlow inner = Needed ∷ inner
prints context at HtmlFlowData inner = escaped at (html context at)
prints context at HtmlTextData inner = escaped at (html context at)
prints context at Emphasis inner = span at (said (codes "<em>")) inner (said (codes "</em>"))
prints context at Strong inner = span at (said (codes "<strong>")) inner (said (codes "</strong>"))
prints context at GfmStrikethrough inner =
    span at (said (codes "<del>")) inner (said (codes "</del>"))
prints context at HardBreakEscape inner = when (not at.around.in_image) (said (codes "<br />"))
prints context at HardBreakTrailing inner = when (not at.around.in_image) (said (codes "<br />"))
prints context at ThematicBreak inner = on_own_line (codes "<hr />")
prints context at GfmTaskListItemCheck inner = span at (task_start context) inner
    (said (codes "/>"))
prints context at GfmTaskListItemValueChecked inner =
    when (not at.around.in_image) (said (codes "checked=\"\" "))
prints context at Link inner = medium anchor context at (layout context.ending inner)
prints context at Image inner = medium picture context at (layout context.ending inner)
prints context at Resource inner = []
prints context at ReferenceString inner = []
prints context at AutolinkEmail inner = autolink context at at.around.in_image (codes "mailto:")
prints context at AutolinkProtocol inner = autolink context at at.around.in_image []
prints context at GfmAutolinkLiteralEmail inner = literal context at (codes "mailto:")
prints context at GfmAutolinkLiteralWww inner = literal context at (codes "http://")
prints context at GfmAutolinkLiteralMailto inner = literal context at []
prints context at GfmAutolinkLiteralProtocol inner = literal context at []
prints context at GfmAutolinkLiteralXmpp inner = literal context at []
prints context at GfmTable inner =
    on_own_line (codes "<table>") ++ (inner ++ on_own_line (codes "</table>"))
prints context at GfmTableHead inner =
    on_own_line (codes "<thead>") ++ (inner ++ on_own_line (codes "</thead>"))
prints context at GfmTableBody inner =
    Text (codes "<tbody>") ∷ (inner ++ on_own_line (codes "</tbody>"))
prints context at GfmTableRow inner = on_own_line (codes "<tr>") ++ (inner ++ row_end at)
prints context at GfmTableCell inner = cell at (layout context.ending inner)
prints context at GfmTableDelimiterRow inner = []
prints context at GfmFootnoteCall inner = call context at
prints context at GfmFootnoteDefinition inner = []
prints context at GfmFootnoteDefinitionPrefix inner = []
prints context at Definition inner = []
prints context at Frontmatter inner = []
prints context at _ inner = inner
