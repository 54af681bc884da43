-- How a line begins, continues and closes leaves (4): one function for each section. A text is the
-- rest of a line after its indentation; `defined` is how many lines of the open paragraph are
-- definitions of links (4.7).
use Rattle.std.specs.Prelude.{ℕ, Bool, Option, List, [], ◌∷◌, ◌++◌, ◌+◌, ◌-◌, ◌==◌, ◌&&◌, not, nat_lt}
use Rattle.std.specs.Prelude.{true, false, Some, None, drop, take, length, if◌then◌else◌}
use Rattle.md_blocks.specs.declared.code.Fence.{Fence}
use Rattle.md_blocks.specs.declared.html.HtmlKind.{HtmlKind}
use Rattle.md_blocks.specs.Marks.{run_of, opens_heading}
use Rattle.md_blocks.specs.Leaves.{is_break, heading_content, blanks, word_length, opens_code}
use Rattle.md_blocks.specs.Leaves.{closes_fence, is_underline, is_delimiter_row, delimiters}
use Rattle.md_blocks.specs.LinkDefinitions.{defined_lines}
use Rattle.md_blocks.specs.Tables.{row_cells}
use Rattle.md_blocks.specs.declared.html.HtmlKind.TheVariants.{Tag}
use Rattle.md_blocks.specs.HtmlBlocks.{html_kind, is_html_end, is_tag_alone, ends_at_blank_line}
use Rattle.md_blocks.specs.Stack.{quotes_depth}
use Rattle.md_blocks.specs.Rests.{Rest, indent, unindented, skipped, is_blank_rest}
use Rattle.md_blocks.specs.Entries.{Line, last_line, Break, Heading}
use Rattle.md_blocks.specs.States.{State, Leaf, NoLeaf, InParagraph, InIndented, InFenced, InMath}
use Rattle.md_blocks.specs.States.{InHtml, InTable, room, room_for_text, leaf_closed, with_entries}
use Rattle.md_blocks.specs.States.{with_leaf, blank_written, closed_to, without_blank}
use Rattle.md_blocks.specs.States.{is_in_paragraph, paragraph_closed}

abbrev pub a_line : List ℕ → List ℕ → Line
a_line text ending = record { text = text; ending = ending }

-- a leaf with another line
abbrev pub with_line : Line → Leaf → Leaf
with_line line leaf = elim leaf [
  | NoLeaf ↦ NoLeaf
  | InParagraph lines ↦ InParagraph (lines ++ line ∷ [])
  | InIndented lines ↦ InIndented (lines ++ line ∷ [])
  | InFenced fence info lines ↦ InFenced fence info (lines ++ line ∷ [])
  | InMath fence lines ↦ InMath fence (lines ++ line ∷ [])
  | InHtml kind lines ↦ InHtml kind (lines ++ line ∷ [])
  | InTable columns lines ↦ InTable columns (lines ++ line ∷ [])
]

-- the open leaf gets a line
abbrev pub line_added : Line → State → State
line_added line state = with_leaf (with_line line state.leaf) state

-- the state if a block begins
abbrev pub if_begun : Bool → State → Option State
if_begun is state = if is then Some state else None

-- 4.1 Thematic breaks: at a line of a mark
abbrev pub break_begun : ℕ → ℕ → ℕ → List ℕ → State → Option State
break_begun defined mark depth text state =
    if_begun (is_break mark text) (with_entries (Break ∷ []) (room defined depth state))

-- 4.2 ATX headings: at one to six number signs; the content is the text after them
abbrev pub heading_of : List ℕ → List ℕ
heading_of text =
    let content = heading_content (drop (run_of 35 text) text) in drop (blanks content) content

abbrev pub heading_begun : ℕ → ℕ → List ℕ → State → Option State
heading_begun defined depth text state =
    if_begun (opens_heading text)
    (with_entries (Heading (run_of 35 text) (a_line (heading_of text) [] ∷ []) ∷ [])
    (room defined depth state))

-- 4.3 Setext headings: an underline makes a heading of a paragraph's lines, if any of them is no
-- definition
abbrev pub heading_underlined : ℕ → ℕ → List ℕ → List Line → State → Option State
heading_underlined defined mark text lines state =
    if_begun (is_underline mark text && nat_lt defined (length lines)) (with_leaf NoLeaf
    (with_entries (Heading (if mark == 61 then 1 else 2) (drop defined lines) ∷ [])
    (blank_written state)))

-- where all lines are definitions, the paragraph loses them and goes on
abbrev pub definitions_taken : ℕ → List Line → State → State
definitions_taken defined lines state = with_leaf (InParagraph (drop defined lines)) state

-- 4.4 Indented code blocks: after four columns, where no paragraph is open
abbrev pub is_indented : Leaf → Bool
is_indented leaf = elim leaf [ InIndented _ ↦ true | _ ↦ false ]

abbrev pub indented_read : ℕ → Bool → Rest → List ℕ → State → State
indented_read depth is_whole rest ending state =
    let line = a_line (skipped 4 rest).text ending in
    without_blank (if is_whole && is_indented state.leaf then line_added line state
    else with_leaf (InIndented (line ∷ [])) (room 0 depth state))

-- 4.5 Fenced code blocks: at a fence of backticks or of tildes, after which its first word is
-- kept
abbrev pub first_word : List ℕ → List ℕ
first_word text = let word = drop (blanks text) text in take (word_length word) word

abbrev pub fence_of : ℕ → Rest → Fence
fence_of mark rest = record {
  mark = mark;
  length = run_of mark (unindented rest);
  indent = indent rest;
}

abbrev pub code_begun : ℕ → ℕ → ℕ → Rest → State → Option State
code_begun defined mark depth rest state =
    let text = unindented rest in
    let info = first_word (drop (run_of mark text) text) in
    if_begun (opens_code mark text)
    (with_leaf (InFenced (fence_of mark rest) info []) (room defined depth state))

-- a line of fenced code, or of math: its closing fence, or a line without the opening fence's
-- indentation
abbrev pub fenced_read : Fence → Rest → List ℕ → State → State
fenced_read fence rest ending state =
    if nat_lt (indent rest) 4 && closes_fence fence.mark fence.length (unindented rest)
    then leaf_closed 0 state
    else line_added (a_line (skipped fence.indent rest).text ending) state

-- 4.6 HTML blocks: the kind that a text begins; `may_be_tag` is false in a paragraph, where a tag
-- alone on its line begins no block
abbrev pub kind_begun : Bool → List ℕ → Option HtmlKind
kind_begun may_be_tag text = elim (html_kind text) [
  | Some kind ↦ Some kind
  | None ↦ if may_be_tag && is_tag_alone text then Some Tag else None
]

-- HTML after a line that may end it
abbrev pub html_ended : Bool → State → State
html_ended is_ended state = if is_ended then leaf_closed 0 state else state

abbrev pub html_begun : ℕ → ℕ → Option HtmlKind → Rest → List ℕ → State → Option State
html_begun defined depth found rest ending state = elim found [
  | None ↦ None
  | Some kind ↦ Some (html_ended (is_html_end kind (unindented rest))
      (with_leaf (InHtml kind (a_line rest.text ending ∷ [])) (room defined depth state)))
]

-- a line of HTML, unless it is the blank line that ends it
abbrev pub html_read : HtmlKind → Rest → List ℕ → State → Option State
html_read kind rest ending state =
    let longer = line_added (a_line rest.text ending) state in
    if_begun (not (is_blank_rest rest && ends_at_blank_line kind))
    (html_ended (is_html_end kind rest.text) longer)

-- 4.9 Blank lines: one continues indented code, and else closes the leaf and the containers that it
-- doesn't continue; then it waits, if the line has an ending
abbrev pub blank_read : ℕ → ℕ → Bool → Rest → List ℕ → State → State
blank_read defined depth is_whole rest ending state =
    if is_whole && is_indented state.leaf then line_added (a_line (skipped 4 rest).text ending) state
    else closed_to defined depth state

abbrev pub blank_waits : Bool → State → State
blank_waits is_ended state =
    if is_ended then record state { blank = Some (quotes_depth state.containers) } else state

-- GFM 4.10 Tables: a delimiter row after a paragraph, whose last line has as many cells, begins a
-- table with that line as its head; the lines before it are a paragraph of their own
abbrev pub is_table : Bool → List ℕ → List Line → Bool
is_table are_read text lines =
    are_read && (is_delimiter_row text
    && length (row_cells (last_line lines).text) == length (delimiters text))

abbrev pub paragraph_split : List Line → State → State
paragraph_split lines state =
    let before = take (length lines - 1) lines in
    with_leaf (InParagraph (last_line lines ∷ [])) (if nat_lt 1 (length lines)
    then paragraph_closed (defined_lines before) before (with_leaf NoLeaf state) else state)

abbrev pub table_begun : Bool → List ℕ → List ℕ → List Line → State → Option State
table_begun are_read text ending lines state =
    if_begun (is_table are_read text lines) (with_leaf
    (InTable (length (delimiters text)) (last_line lines ∷ a_line text ending ∷ []))
    (blank_written (paragraph_split lines state)))

-- how many cells all rows lack after a row with so many cells in a table of so many columns. A row
-- has a cell, and by the parser's own rule none is read after which they lack more than 2^19
abbrev pub lacking_after : ℕ → ℕ → ℕ → Option ℕ
lacking_after columns cells lacking =
    if nat_lt 0 cells && not (nat_lt 524288 (lacking + (columns - cells)))
    then Some (lacking + (columns - cells)) else None

-- a row of the open table
abbrev pub row_read : Line → State → Option State
row_read line state = elim state.leaf [
  | InTable columns lines ↦
      elim (lacking_after columns (length (row_cells line.text)) state.lacking) [
        | Some lacking ↦ Some (record (line_added line state) { lacking = lacking })
        | None ↦ None
      ]
  | _ ↦ None
]

-- 4.8 Paragraphs: a line of text continues the open paragraph, also if it doesn't continue all
-- containers (5.1, laziness), is a row of the open table, or begins a paragraph
abbrev pub text_read : ℕ → ℕ → Bool → Line → State → State
text_read defined depth is_whole line state =
    if is_in_paragraph state.leaf then line_added line state
    else elim (if is_whole then row_read line state else None) [
      | Some longer ↦ longer
      | None ↦ with_leaf (InParagraph (line ∷ [])) (room_for_text defined depth state)
    ]
