-- What is printed at a node's two ends: its entry and its exit.
use Rattle.std.specs.Prelude.{ℕ, suc, Bool, true, false, not, ◌&&◌, ◌||◌, ◌==◌, if◌then◌else◌, List}
use Rattle.std.specs.Prelude.{[], ◌∷◌, ◌++◌, Option, None, slice_get, drop, codes, unwrap_or}
use Rattle.std.specs.Prelude.{bytes_eq}
use Rattle.std.specs.Option.{option_map_or}
use Rattle.std.specs.List.{flat_map}
use Rattle.std.specs.Fmt.{decimal}
use Rattle.md_base.specs.declared.event.AlignKind.{AlignKind}
use Rattle.md_base.specs.declared.event.Name.{Name}
use Rattle.md_base.specs.declared.event.Name.TheVariants as name_variants
use name_variants.{AutolinkEmail, AutolinkProtocol, GfmAutolinkLiteralEmail}
use name_variants.{GfmAutolinkLiteralMailto, GfmAutolinkLiteralProtocol, GfmAutolinkLiteralWww}
use name_variants.{GfmAutolinkLiteralXmpp, LineEnding, BlankLineEnding, BlockQuote, ListOrdered}
use name_variants.{ListUnordered, ListItem, ListItemPrefix, Data, CharacterEscapeValue}
use name_variants.{CharacterReferenceValue, CodeIndented, CodeFenced, CodeFencedFence}
use name_variants.{CodeFencedFenceInfo, CodeFlowChunk, MathFlow, MathFlowFence, MathFlowChunk}
use name_variants.{CodeText, CodeTextData, MathText, MathTextData, HtmlFlow, HtmlFlowData}
use name_variants.{HtmlTextData, Link, Image, GfmFootnoteCall, HeadingAtx}
use name_variants.{HeadingSetextUnderlineSequence, GfmTable, GfmTableHead, GfmTableBody}
use name_variants.{GfmTableRow, GfmTableCell, Emphasis, Strong, GfmStrikethrough}
use name_variants.{GfmTaskListItemCheck, GfmTaskListItemValueChecked, HardBreakEscape}
use name_variants.{HardBreakTrailing, Paragraph, ThematicBreak}
use Rattle.md_base.specs.NameTests.{is_definition, is_fence}
use Rattle.md_base.specs.Is.{is}
use Rattle.md_base.specs.Place.{serialized_between}
use Rattle.md_base.specs.Reference.{decoded}
use Rattle.md_text.specs.declared.options.CompileOptions.{CompileOptions}
use Rattle.md_text.specs.Encode.{encoded}
use Rattle.md_text.specs.Filter.{tag_filtered}
use Rattle.md_meaning.specs.Meaning.Layout.{Piece, Text, Needed, Forced, said, on_own_line, when}
use Rattle.md_meaning.specs.Meaning.At.{Target, Context, nothing_found, target_in, text_in}
use Rattle.md_meaning.specs.Meaning.Spans.{is_at, task_start, trimmed, without_escapes}
use Rattle.md_meaning.specs.Meaning.Blocks.{heading_tag, without_zeros}
use Rattle.md_meaning.specs.Meaning.Media.{anchor, picture, target_defined}
use Rattle.md_meaning.specs.Meaning.Tables.{align_attribute, cell_of}
use Rattle.md_meaning.specs.Meaning.Footnotes.{call_id, count_of, distinct, id_of, place_among}
use Rattle.md_steps.specs.State.{NodeFacts, Scope, State}

-- ---- what is printed at the entry of a node
abbrev pub list_opening : Context → NodeFacts → List Piece
list_opening context facts =
    let number = without_zeros (option_map_or (text_in context.bytes) facts.number (codes "1")) in
    when (not (bytes_eq number (codes "1")))
    (Text (codes " start=\"") ∷ Text number ∷ Text (codes "\"") ∷ [])

abbrev pub cell_opening : Bool → AlignKind → List Piece
cell_opening in_head kind = on_own_line (if in_head then codes "<th" else codes "<td")
    ++ (Text (align_attribute kind) ∷ Text (codes ">") ∷ [])

abbrev pub opens : Context → Scope → ℕ → NodeFacts → Name → List Piece
opens context scope cells facts BlockQuote = on_own_line (codes "<blockquote>")
opens context scope cells facts ListOrdered =
    on_own_line (codes "<ol") ++ (list_opening context facts ++ said (codes ">"))
opens context scope cells facts ListUnordered = on_own_line (codes "<ul>")
opens context scope cells facts ListItem = on_own_line (codes "<li>")
opens context scope cells facts Paragraph = when (not scope.is_tight) (on_own_line (codes "<p>"))
opens context scope cells facts HeadingAtx = on_own_line (heading_tag (codes "<h") facts.rank)
opens context scope cells facts CodeIndented = on_own_line (codes "<pre><code>")
opens context scope cells facts CodeFenced = on_own_line (codes "<pre><code")
opens context scope cells facts MathFlow =
    on_own_line (codes "<pre><code class=\"language-math math-display\"")
opens context scope cells facts CodeFencedFenceInfo = said (codes " class=\"language-")
opens context scope cells facts CodeText = when (not scope.in_image) (said (codes "<code>"))
opens context scope cells facts MathText =
    when (not scope.in_image) (said (codes "<code class=\"language-math math-inline\">"))
opens context scope cells facts HtmlFlow = Needed ∷ []
opens context scope cells facts Emphasis = when (not scope.in_image) (said (codes "<em>"))
opens context scope cells facts Strong = when (not scope.in_image) (said (codes "<strong>"))
opens context scope cells facts GfmStrikethrough = when (not scope.in_image) (said (codes "<del>"))
opens context scope cells facts GfmTaskListItemCheck = when (not scope.in_image)
    (task_start context)
opens context scope cells facts GfmTable = on_own_line (codes "<table>")
opens context scope cells facts GfmTableHead = on_own_line (codes "<thead>")
opens context scope cells facts GfmTableBody = said (codes "<tbody>")
opens context scope cells facts GfmTableRow = on_own_line (codes "<tr>")
opens context scope cells facts GfmTableCell =
    option_map_or (λ kind. cell_opening scope.in_head kind) (slice_get scope.columns cells) []
opens context scope cells facts _ = []

-- ---- what is printed at the exit of a node

-- a text, escaped if the surroundings say so
abbrev pub shown : State → List ℕ → List Piece
shown left text = said (encoded left.scope.is_escaping text)

abbrev pub line_closing : Context → State → NodeFacts → List Piece
line_closing context left facts = if left.scope.in_code then said (codes " ")
    else (if not left.scope.in_definition && left.slurps
    || option_map_or is_definition left.ended false then []
    else said (text_in context.bytes facts.place))

abbrev pub item_ends_in_line : State → NodeFacts → Bool
item_ends_in_line left facts = option_map_or (is ListItemPrefix) facts.contributing false
    || option_map_or (is Paragraph) facts.contributing false && left.scope.is_tight

abbrev pub code_closing : State → List Piece
code_closing left = when left.has_chunk (Needed ∷ []) ++ said (codes "</code></pre>")

abbrev pub fenced_closing : State → Option Name → List Piece
fenced_closing left ended =
    when ((left.fences == 1) && left.scope.is_contained
    && not (option_map_or is_fence ended false)) (Forced ∷ [])
    ++ (code_closing left ++ when (left.fences == 1) (Needed ∷ []))

abbrev pub underline_rank : Context → NodeFacts → ℕ
underline_rank context facts = if is_at 45 context.bytes facts.place.start.index then 2 else 1

abbrev pub code_text_closing : State → List ℕ → List Piece
code_text_closing left inner =
    Text (trimmed (if left.scope.in_table then without_escapes inner else inner))
    ∷ when (not left.scope.in_image) (said (codes "</code>"))

abbrev pub html_text : Context → NodeFacts → List ℕ
html_text context facts = if context.options.allow_dangerous_html && context.options.gfm_tagfilter
    then tag_filtered (text_in context.bytes facts.place) else text_in context.bytes facts.place

-- the target of the definition that a link or an image refers to; none if it has a resource
abbrev pub referred : Context → NodeFacts → Target
referred context facts =
    if facts.resource then target_in nothing_found else target_defined context facts.identifier

-- the target of a link or an image
abbrev pub leads : Context → State → NodeFacts → Target
leads context left facts = unwrap_or left.resource (referred context facts)

abbrev pub autolink_closing : Context → NodeFacts → Bool → List ℕ → List Piece
autolink_closing context facts plain prefix =
    let text = text_in context.bytes facts.place in
    if plain then said (encoded true text)
    else anchor context.options (record { destination = prefix ++ text; title = None })
    (encoded true text)

abbrev pub cell_closing : Bool → List ℕ → List Piece
cell_closing in_head text = Text text ∷ Text (if in_head then codes "</th>" else codes "</td>") ∷ []

-- a call after others, which is numbered among these and itself
abbrev pub call_pieces : CompileOptions → List (List ℕ) → List ℕ → List Piece
call_pieces options calls identifier =
    let number = place_among (distinct (calls ++ identifier ∷ [])) identifier in
    Text (codes "<sup><a href=\"#")
    ∷ Text (id_of options (codes "fn-") identifier number) ∷ Text (codes "\" id=\"")
    ∷ Text (call_id options identifier number (suc (count_of calls identifier)))
    ∷ Text (codes "\" data-footnote-ref=\"\" aria-describedby=\"footnote-label\">")
    ∷ Text (decimal number)
    ∷ Text (codes "</a></sup>") ∷ []

abbrev pub call_closing : Context → State → NodeFacts → List Piece
call_closing context left facts =
    when (not left.scope.in_image) (call_pieces context.options left.calls facts.identifier)

-- in a state after the node's surroundings are popped: `inner` is its captured text, `ended` its
-- last child
abbrev pub closes : Context → State → Option Name → NodeFacts → List ℕ → Name → List Piece
closes context left ended facts inner Data = shown left (text_in context.bytes facts.place)
closes context left ended facts inner CharacterEscapeValue =
    shown left (text_in context.bytes facts.place)
closes context left ended facts inner CodeTextData = shown left (text_in context.bytes facts.place)
closes context left ended facts inner MathTextData = shown left (text_in context.bytes facts.place)
closes context left ended facts inner CharacterReferenceValue =
    shown left (unwrap_or (decoded context.names left.marker (text_in context.bytes facts.place))
    [])
closes context left ended facts inner LineEnding = line_closing context left facts
closes context left ended facts inner BlankLineEnding = when facts.last (Needed ∷ [])
closes context left ended facts inner BlockQuote = on_own_line (codes "</blockquote>")
closes context left ended facts inner ListOrdered = Forced ∷ said (codes "</ol>")
closes context left ended facts inner ListUnordered = Forced ∷ said (codes "</ul>")
closes context left ended facts inner ListItem =
    (if item_ends_in_line left facts then [] else Needed ∷ []) ++ said (codes "</li>")
closes context left ended facts inner Paragraph = when (not left.scope.is_tight)
    (said (codes "</p>"))
closes context left ended facts inner HeadingAtx = said (heading_tag (codes "</h") facts.rank)
closes context left ended facts inner HeadingSetextUnderlineSequence =
    let rank = underline_rank context facts in
    on_own_line (heading_tag (codes "<h") rank)
    ++ (said left.heading ++ said (heading_tag (codes "</h") rank))
closes context left ended facts inner CodeIndented = code_closing left
closes context left ended facts inner CodeFenced = fenced_closing left ended
closes context left ended facts inner MathFlow = fenced_closing left ended
closes context left ended facts inner CodeFencedFence = when (left.fences == 0) (said (codes ">"))
closes context left ended facts inner MathFlowFence = when (left.fences == 0) (said (codes ">"))
closes context left ended facts inner CodeFencedFenceInfo = said (codes "\"")
closes context left ended facts inner CodeFlowChunk =
    said (encoded true
    (unwrap_or (serialized_between context.bytes facts.place.start facts.place.end) []))
closes context left ended facts inner MathFlowChunk =
    said (encoded true
    (unwrap_or (serialized_between context.bytes facts.place.start facts.place.end) []))
closes context left ended facts inner CodeText = code_text_closing left inner
closes context left ended facts inner MathText = code_text_closing left inner
closes context left ended facts inner HtmlFlowData = shown left (html_text context facts)
closes context left ended facts inner HtmlTextData = shown left (html_text context facts)
closes context left ended facts inner Emphasis = when (not left.scope.in_image)
    (said (codes "</em>"))
closes context left ended facts inner Strong =
    when (not left.scope.in_image) (said (codes "</strong>"))
closes context left ended facts inner GfmStrikethrough =
    when (not left.scope.in_image) (said (codes "</del>"))
closes context left ended facts inner HardBreakEscape =
    when (not left.scope.in_image) (said (codes "<br />"))
closes context left ended facts inner HardBreakTrailing =
    when (not left.scope.in_image) (said (codes "<br />"))
closes context left ended facts inner ThematicBreak = on_own_line (codes "<hr />")
closes context left ended facts inner GfmTaskListItemCheck =
    when (not left.scope.in_image) (said (codes "/>"))
closes context left ended facts inner GfmTaskListItemValueChecked =
    when (not left.scope.in_image) (said (codes "checked=\"\" "))
closes context left ended facts inner Link = if left.scope.in_image then said inner
    else anchor context.options (leads context left facts) inner
closes context left ended facts inner Image = if left.scope.in_image then said inner
    else picture context.options (leads context left facts) inner
closes context left ended facts inner AutolinkEmail =
    autolink_closing context facts left.scope.in_image (codes "mailto:")
closes context left ended facts inner AutolinkProtocol =
    autolink_closing context facts left.scope.in_image []
closes context left ended facts inner GfmAutolinkLiteralEmail =
    autolink_closing context facts (left.scope.in_image || left.scope.in_link) (codes "mailto:")
closes context left ended facts inner GfmAutolinkLiteralWww =
    autolink_closing context facts (left.scope.in_image || left.scope.in_link) (codes "http://")
closes context left ended facts inner GfmAutolinkLiteralMailto =
    autolink_closing context facts (left.scope.in_image || left.scope.in_link) []
closes context left ended facts inner GfmAutolinkLiteralProtocol =
    autolink_closing context facts (left.scope.in_image || left.scope.in_link) []
closes context left ended facts inner GfmAutolinkLiteralXmpp =
    autolink_closing context facts (left.scope.in_image || left.scope.in_link) []
closes context left ended facts inner GfmTable = on_own_line (codes "</table>")
closes context left ended facts inner GfmTableHead = on_own_line (codes "</thead>")
closes context left ended facts inner GfmTableBody = on_own_line (codes "</tbody>")
closes context left ended facts inner GfmTableRow =
    flat_map (cell_of left.scope.in_head []) (drop left.cells left.scope.columns)
    ++ on_own_line (codes "</tr>")
closes context left ended facts inner GfmTableCell =
    option_map_or (λ kind. cell_closing left.scope.in_head inner)
    (slice_get left.scope.columns left.cells) []
closes context left ended facts inner GfmFootnoteCall = call_closing context left facts
closes context left ended facts inner _ = []
