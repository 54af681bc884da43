-- Which blocks a line continues and begins, and what it is else (the specification's appendix,
-- phase 1, for one line). A text is the rest of a line after its indentation; `defined` is how many
-- lines of the paragraph that is open before the line are definitions of links (4.7).
use Rattle.std.specs.Prelude.{ℕ, Bool, Option, List, [], ◌==◌, ◌&&◌, ◌||◌, not, nat_lt, get_or}
use Rattle.std.specs.Prelude.{Some, None, zero, suc, length, true, false, if◌then◌else◌}
use Rattle.md_blocks.specs.declared.options.MarkdownOptions.{MarkdownOptions}
use Rattle.md_blocks.specs.Marks.{opens_item, may_interrupt}
use Rattle.md_blocks.specs.Leaves.{is_underline}
use Rattle.md_blocks.specs.Entries.{Line}
use Rattle.md_blocks.specs.LinkDefinitions.{defined_lines}
use Rattle.md_blocks.specs.Rests.{Rest, indent, is_blank_rest, unindented}
use Rattle.md_blocks.specs.States.{State, Leaf, NoLeaf, InParagraph, InFenced, InMath, InHtml}
use Rattle.md_blocks.specs.States.{is_in_paragraph, without_blank}
use Rattle.md_blocks.specs.Containers.{matched}
use Rattle.md_blocks.specs.LeafBlocks.{break_begun, code_begun, heading_begun, heading_underlined}
use Rattle.md_blocks.specs.LeafBlocks.{a_line, definitions_taken, html_begun, indented_read}
use Rattle.md_blocks.specs.LeafBlocks.{kind_begun, table_begun}
use Rattle.md_blocks.specs.LeafBlocks.{blank_read, blank_waits, fenced_read, html_read, text_read}
use Rattle.md_blocks.specs.ContainerBlocks.{Begun, quote_begun, item_begun}
use Rattle.md_blocks.specs.OwnBlocks.{footnote_begun, after_footnote, math_begun}

-- the state before the first line
abbrev pub started : State
started = record { entries = []; containers = []; leaf = NoLeaf; blank = None; lacking = 0 }

-- 5.1: a quote, unless it would be the 97th container that is open, by the parser's own rule
abbrev pub quote_at : ℕ → ℕ → Rest → State → Option Begun
quote_at defined depth rest state =
    if nat_lt depth 96 then Some (quote_begun defined depth rest state) else None

-- the definition of a footnote, where it is read
abbrev pub footnote_at : Bool → ℕ → ℕ → Rest → State → Option Begun
footnote_at are_read defined depth rest state =
    if are_read && nat_lt depth 96 then elim (footnote_begun defined depth rest state) [
      | Some begun ↦ Some (record { state = begun; rest = after_footnote rest })
      | None ↦ None
    ] else None

-- 5.2: whether an item begins, in a paragraph only where it may interrupt that
abbrev pub begins_item : Bool → List ℕ → Bool
begins_item in_paragraph text = opens_item text && (not in_paragraph || may_interrupt text)

-- an item, which with its list is two containers
abbrev pub item_at : ℕ → ℕ → Bool → Rest → List ℕ → State → Option Begun
item_at defined depth in_paragraph rest ending state =
    if nat_lt depth 95 && begins_item in_paragraph (unindented rest)
    then Some (item_begun defined depth rest ending state) else None

-- 5 Container blocks: the one that begins at a text, by its first byte
abbrev pub container_begun : MarkdownOptions → ℕ → ℕ → Bool → Rest → List ℕ → State → Option Begun
container_begun options defined depth in_paragraph rest ending state =
    let first = get_or (unindented rest) 0 0 in
    if first == 62 then quote_at defined depth rest state
    else if first == 91 then footnote_at options.footnotes defined depth rest state
    else item_at defined depth in_paragraph rest ending state

-- the lines of the open paragraph
abbrev pub paragraph_lines : Leaf → List Line
paragraph_lines leaf = elim leaf [ InParagraph lines ↦ lines | _ ↦ [] ]

-- how many of them are definitions of links (4.7)
abbrev pub lines_defined : State → ℕ
lines_defined state = defined_lines (paragraph_lines state.leaf)

-- 4.3: whether a text that begins with a byte may underline the paragraph that the line continues
abbrev pub may_underline : Bool → ℕ → Bool
may_underline in_paragraph mark = in_paragraph && (mark == 61 || mark == 45)

-- the state where the line makes no heading: a paragraph that it underlines has only definitions,
-- and loses them
abbrev pub unless_underlined : ℕ → Bool → Rest → State → State
unless_underlined defined in_paragraph rest state =
    let text = unindented rest in
    let mark = get_or text 0 0 in
    if may_underline in_paragraph mark && is_underline mark text
    then definitions_taken defined (paragraph_lines state.leaf) state else state

-- 4.1: a thematic break, at one of its marks
abbrev pub break_at : ℕ → ℕ → List ℕ → State → Option State
break_at defined depth text state =
    let mark = get_or text 0 0 in
    if mark == 42 || (mark == 45 || mark == 95) then break_begun defined mark depth text state
    else None

-- 4.3, 4.1: the underline of a heading, or else a thematic break
abbrev pub marks_begun : ℕ → ℕ → Bool → Rest → State → Option State
marks_begun defined depth in_paragraph rest state =
    let text = unindented rest in
    let mark = get_or text 0 0 in
    let left = unless_underlined defined in_paragraph rest state in
    if may_underline in_paragraph mark
    then elim (heading_underlined defined mark text (paragraph_lines state.leaf) state) [
      | Some heading ↦ Some heading
      | None ↦ break_at defined depth text left
    ] else break_at defined depth text state

-- 4 Leaf blocks: the one that begins at a text, by its first byte
abbrev pub leaf_begun : MarkdownOptions → ℕ → ℕ → Bool → Rest → List ℕ → State → Option State
leaf_begun options defined depth in_paragraph rest ending state =
    let text = unindented rest in
    let first = get_or text 0 0 in
    if first == 35 then heading_begun defined depth text state
    else if first == 96 || first == 126 then code_begun defined first depth rest state
    else if first == 36
    then (if options.math then math_begun defined depth rest ending state else None)
    else if first == 60
    then html_begun defined depth (kind_begun (not in_paragraph) text) rest ending state
    else marks_begun defined depth in_paragraph rest state

-- 4.8, GFM 4.10: text where no other block begins: a table begins at a delimiter row in a paragraph,
-- and other text is read
abbrev pub text_begun : MarkdownOptions → ℕ → ℕ → Bool → Rest → List ℕ → State → State
text_begun options defined depth is_whole rest ending state =
    let text = unindented rest in
    let found = if is_whole && is_in_paragraph state.leaf
    then table_begun options.tables text ending (paragraph_lines state.leaf) state
    else None in
    elim found [
      | Some table ↦ table
      | None ↦ text_read defined depth is_whole (a_line text ending) state
    ]

-- 4.4: text after four columns or more is code, unless a paragraph is open
abbrev pub deep_read : ℕ → ℕ → Bool → Rest → List ℕ → State → State
deep_read defined depth is_whole rest ending state =
    if is_in_paragraph state.leaf
    then text_read defined depth is_whole (a_line (unindented rest) ending) state
    else indented_read depth is_whole rest ending state

-- what a text does: it ends the line in some state, or begins a container with a rest of the line
pub data Step : Type 0 where
  Ends : State → Step
  GoesOn : Begun → Step

-- the block at the text that is left of a line
abbrev pub block_begun : MarkdownOptions → ℕ → ℕ → Bool → Rest → List ℕ → State → Step
block_begun options defined depth is_whole rest ending state =
    let in_paragraph = is_whole && is_in_paragraph state.leaf in
    let left = unless_underlined defined in_paragraph rest state in
    elim (leaf_begun options defined depth in_paragraph rest ending state) [
      | Some begun ↦ Ends (without_blank begun)
      | None ↦ elim (container_begun options defined depth in_paragraph rest ending left) [
        | Some begun ↦ GoesOn begun
        | None ↦ Ends (text_begun options defined depth is_whole rest ending left)
      ]
    ]

abbrev pub step_read : MarkdownOptions → ℕ → ℕ → Bool → Rest → List ℕ → State → Step
step_read options defined depth is_whole rest ending state =
    if nat_lt (indent rest) 4
    then block_begun options defined depth is_whole rest ending state
    else Ends (deep_read defined depth is_whole rest ending state)

-- a blank rest of a line: a blank line, if no container begins in the line
abbrev pub blank_or : ℕ → ℕ → Bool → Bool → Bool → Rest → List ℕ → State → State
blank_or defined depth is_whole is_ended has_begun rest ending state =
    if has_begun then state
    else blank_waits is_ended (blank_read defined depth is_whole rest ending state)

-- the blocks of a line after what it continues: containers, each at the rest that the one before
-- leaves, and then what ends the line. Each takes a byte, so the length of the rest is enough `fuel`.
-- At most one paragraph is open before the line, so that one number `defined` serves all steps
abbrev pub begun : ℕ → MarkdownOptions → ℕ → ℕ → Bool → Bool → Bool → Rest → List ℕ → State → State
begun zero options defined depth is_whole is_ended has_begun rest ending state =
    blank_or defined depth is_whole is_ended has_begun rest ending state
begun (suc fuel) options defined depth is_whole is_ended has_begun rest ending state =
    if is_blank_rest rest then blank_or defined depth is_whole is_ended has_begun rest ending state
    else elim (step_read options defined depth is_whole rest ending state) [
      | Ends after ↦ after
      | GoesOn next ↦ begun fuel options defined (length next.state.containers) is_whole
          is_ended true next.rest ending next.state
    ]

-- 4.5, 4.6: a line of fenced code, of math or of HTML, if it belongs to that
abbrev pub leaf_continued : Rest → List ℕ → State → Option State
leaf_continued rest ending state = elim state.leaf [
  | InFenced fence info lines ↦ Some (fenced_read fence rest ending state)
  | InMath fence lines ↦ Some (fenced_read fence rest ending state)
  | InHtml kind lines ↦ html_read kind rest ending state
  | _ ↦ None
]

-- a line after so many open containers (steps 2 and 3)
abbrev pub line_after : MarkdownOptions → ℕ → Bool → Bool → Rest → List ℕ → State → State
line_after options depth is_whole is_ended rest ending state =
    elim (if is_whole then leaf_continued rest ending state else None) [
      | Some longer ↦ longer
      | None ↦ begun (length rest.text) options (lines_defined state) depth is_whole is_ended
          false rest ending state
    ]

-- a line: it continues open containers (step 1), and is read after them
abbrev pub line_read : MarkdownOptions → Bool → Rest → List ℕ → State → State
line_read options is_ended line ending state =
    let after = matched 0 state.containers line in
    line_after options after.count (after.count == length state.containers) is_ended
    after.rest ending state
