-- For the code alone: the entries for which its tape stands. Its indices are into the document and
-- into the lines of all leaves.
use Rattle.std.specs.Prelude.{ℕ, List, [], ◌∷◌, ◌++◌, ◌-◌, ◌==◌, map, take, drop, replicate}
use Rattle.std.specs.Prelude.{length, get_or, suc, Bool, true, false}
use Rattle.std.specs.Prelude.{if◌then◌else◌}
use Rattle.std.specs.List.{list_all}
use Rattle.md_lines.specs.declared.line.Line.{Line as Place}
use Rattle.md_lines.specs.declared.span.Span.{Span}
use Rattle.md_blocks.specs.declared.block.Block.{Block}
use Rattle.md_blocks.specs.declared.block.Block.TheVariants as block
use Rattle.md_blocks.specs.declared.block.LineRange.{LineRange}
use Rattle.md_blocks.specs.declared.pass.OpenLeaf.{OpenLeaf}
use Rattle.md_blocks.specs.declared.pass.OpenLeaf.TheVariants as leaf
use Rattle.md_blocks.specs.Leaves.{blanks}
use Rattle.md_blocks.specs.Marks.{number_length}
use Rattle.md_blocks.specs.Entries.{Line, Entry, last_line, QuoteBegins, ListBegins, ItemBegins}
use Rattle.md_blocks.specs.Entries.{FootnoteBegins, ContainerEnds, Task, Paragraph, Heading}
use Rattle.md_blocks.specs.Entries.{IndentedCode, FencedCode, Html, Break, Table, Math}
use Rattle.md_blocks.specs.Entries.{FrontMatter, Blank, OnlyDefinitions}

-- the bytes from one index up to another one
abbrev pub between : ℕ → ℕ → List ℕ → List ℕ
between from to bytes = drop from (take to bytes)

abbrev pub text_between : Span → List ℕ → List ℕ
text_between span bytes = between span.start span.end bytes

-- the text of a line: of a tab whose first columns belong to the prefixes, spaces are left
abbrev pub text_of_line : List ℕ → Place → List ℕ
text_of_line bytes line =
    if line.columns == 0 then between line.start line.end bytes
    else replicate (4 - line.columns) 32 ++ between (suc line.start) line.end bytes

abbrev pub line_of : List ℕ → Place → Line
line_of bytes line = record {
  text = text_of_line bytes line;
  ending = take line.ending (drop line.end bytes);
}

-- the lines of a leaf
abbrev pub lines_of : List ℕ → List Place → LineRange → List Line
lines_of bytes lines range = map (line_of bytes) (drop range.start (take range.end lines))

-- the first text, which is what else a leaf has
abbrev pub first_text : List Line → List ℕ
first_text lines = elim lines [ [] ↦ [] | line ∷ _ ↦ line.text ]

-- a heading whose last line is its underline
abbrev pub underlined : List Line → Entry
underlined lines =
    Heading (if get_or (last_line lines).text 0 0 == 61 then 1 else 2)
    (take (length lines - 1) lines)

-- a heading of number signs, from these to the end of its content
abbrev pub heading_of : ℕ → List ℕ → Entry
heading_of level text =
    let content = drop level text in
    Heading level (record { text = drop (blanks content) content; ending = [] } ∷ [])

abbrev pub entry_of : List ℕ → List Place → Block → Entry
entry_of bytes lines (block.EnterQuote _) = QuoteBegins
entry_of bytes lines (block.EnterList is_ordered start) =
    ListBegins is_ordered (take (number_length (drop start bytes)) (drop start bytes))
entry_of bytes lines (block.EnterItem _ _) = ItemBegins
entry_of bytes lines (block.EnterFootnote label) = FootnoteBegins (text_between label bytes)
entry_of bytes lines (block.Exit _ _ _) = ContainerEnds
entry_of bytes lines (block.Task is_checked _) = Task is_checked
entry_of bytes lines (block.Paragraph range) = Paragraph (lines_of bytes lines range)
entry_of bytes lines (block.AtxHeading level span) = heading_of level (text_between span bytes)
entry_of bytes lines (block.SetextHeading range) = underlined (lines_of bytes lines range)
entry_of bytes lines (block.FencedCode range) =
    FencedCode (first_text (lines_of bytes lines range)) (drop 1 (lines_of bytes lines range))
entry_of bytes lines (block.IndentedCode range) = IndentedCode (lines_of bytes lines range)
entry_of bytes lines (block.Html range) = Html (lines_of bytes lines range)
entry_of bytes lines (block.ThematicBreak _) = Break
entry_of bytes lines (block.Table range) = Table (lines_of bytes lines range)
entry_of bytes lines (block.Math range) = Math (drop 1 (lines_of bytes lines range))
entry_of bytes lines (block.FrontMatter ending) = FrontMatter (take ending.start bytes)
entry_of bytes lines (block.BlankLine _) = Blank
entry_of bytes lines (block.Definitions _) = OnlyDefinitions

abbrev pub entries_of : List ℕ → List Place → List Block → List Entry
entries_of bytes lines tape = map (entry_of bytes lines) tape

-- whether the first line of an open leaf is no line of its content
abbrev pub has_info : OpenLeaf → Bool
has_info (leaf.Fenced _) = true
has_info (leaf.Math _) = true
has_info _ = false

-- whether an open leaf is a paragraph
abbrev pub is_paragraph : OpenLeaf → Bool
is_paragraph leaf.Paragraph = true
is_paragraph _ = false

-- whether no columns of the lines belong to the prefixes
abbrev pub are_whole : List Place → Bool
are_whole lines = list_all (λ line. line.columns == 0) lines

-- the end of the range of lines that an entry of the tape has; 0 if it has none
abbrev pub lines_end : Block → ℕ
lines_end (block.Paragraph range) = range.end
lines_end (block.SetextHeading range) = range.end
lines_end (block.FencedCode range) = range.end
lines_end (block.IndentedCode range) = range.end
lines_end (block.Html range) = range.end
lines_end (block.Table range) = range.end
lines_end (block.Math range) = range.end
lines_end _ = 0
