-- Which texts begin or end a leaf block, as CommonMark and GFM define them, and math. A text is the
-- rest of a line after its indentation, without its ending.
use Rattle.std.specs.Prelude.{ℕ, Bool, List, [], ◌∷◌, ◌==◌, ◌-◌, ◌&&◌, ◌||◌, true, not, nat_lt}
use Rattle.std.specs.Prelude.{length, take, drop, get_or, if◌then◌else◌}
use Rattle.std.specs.List.{list_all, list_any, count_by, prefix_len, suffix_len, onto_first}
use Rattle.md_lines.specs.Lines.{is_blank}
use Rattle.md_blocks.specs.Marks.{run_of, is_blank_text}

-- whether a byte may occur in a thematic break of a mark
abbrev pub may_be_in_break : ℕ → ℕ → Bool
may_be_in_break mark byte = byte == mark || is_blank byte

-- whether a text is a thematic break: three or more of a mark, and else only spaces and tabs
abbrev pub is_break : ℕ → List ℕ → Bool
is_break mark text =
    list_all (may_be_in_break mark) text && nat_lt 2 (count_by (λ byte. byte == mark) text)

-- whether a text has a byte
abbrev pub has : ℕ → List ℕ → Bool
has wanted text = list_any (λ byte. byte == wanted) text

-- whether a text begins with `least` or more of a mark, and if `is_last` has none after them
abbrev pub opens_fence : ℕ → ℕ → Bool → List ℕ → Bool
opens_fence mark least is_last text =
    not (nat_lt (run_of mark text) least)
    && not (is_last && has mark (drop (run_of mark text) text))

-- whether a text opens fenced code: three or more of a mark, and after backticks no backtick
abbrev pub opens_code : ℕ → List ℕ → Bool
opens_code mark text = opens_fence mark 3 (mark == 96) text

-- whether a text begins a block of math: two or more dollar signs, and none after them
abbrev pub opens_math : List ℕ → Bool
opens_math text = opens_fence 36 2 true text

-- whether a text closes a fence: at least as many of its mark, and then only spaces and tabs
abbrev pub closes_fence : ℕ → ℕ → List ℕ → Bool
closes_fence mark length text =
    not (nat_lt (run_of mark text) length) && is_blank_text (drop (run_of mark text) text)

-- how many spaces and tabs begin a text
abbrev pub blanks : List ℕ → ℕ
blanks text = prefix_len is_blank text

-- how long the word is that begins a text: up to a space, a tab or the end
abbrev pub word_length : List ℕ → ℕ
word_length text = prefix_len (λ byte. not (is_blank byte)) text

-- whether a text is one or more of a mark, and then only spaces and tabs
abbrev pub is_underline : ℕ → List ℕ → Bool
is_underline mark text =
    nat_lt 0 (run_of mark text) && is_blank_text (drop (run_of mark text) text)

-- a text without the spaces and tabs at its end
abbrev pub without_blanks : List ℕ → List ℕ
without_blanks text = take (length text - suffix_len is_blank text) text

-- a text without the number signs at its end
abbrev pub without_number_signs : List ℕ → List ℕ
without_number_signs text = take (length text - suffix_len (λ byte. byte == 35) text) text

-- whether a text ends with a space or a tab
abbrev pub ends_blank : List ℕ → Bool
ends_blank text = is_blank (get_or text (length text - 1) 0)

-- the content of a heading, without blanks and a closing sequence at its end
abbrev pub heading_content : List ℕ → List ℕ
heading_content text =
    let whole = without_blanks text in
    let content = without_number_signs whole in
    if ends_blank content then without_blanks content else whole

-- a text without a byte at its beginning, if it has it
abbrev pub without_first : ℕ → List ℕ → List ℕ
without_first wanted text =
    elim text [ [] ↦ [] | byte ∷ rest ↦ if byte == wanted then rest else byte ∷ rest ]

-- how long the first cell of a row is
abbrev pub cell_length : List ℕ → ℕ
cell_length row = prefix_len (λ byte. not (byte == 124)) row

-- the cells of a delimiter row without its leading bar, each up to a bar or the end
abbrev pub cells : List ℕ → List (List ℕ)
cells [] = []
cells (byte ∷ rest) = if byte == 124 then [] ∷ cells rest else onto_first byte (cells rest)

-- whether a cell is hyphens with or without a colon on each side, between spaces and tabs
abbrev pub is_delimiter : List ℕ → Bool
is_delimiter cell =
    let marks = without_first 58 (drop (blanks cell) cell) in
    nat_lt 0 (run_of 45 marks)
    && is_blank_text (without_first 58 (drop (run_of 45 marks) marks))

-- whether a cell that begins with a byte may delimit a column
abbrev pub may_begin_delimiter : ℕ → Bool
may_begin_delimiter byte = byte == 45 || (byte == 58 || is_blank byte)

-- the cells of a delimiter row
abbrev pub delimiters : List ℕ → List (List ℕ)
delimiters text = cells (without_first 124 (without_blanks text))

-- whether a text is a delimiter row: delimiters in all cells, and a bar or a colon
abbrev pub is_delimiter_row : List ℕ → Bool
is_delimiter_row text =
    nat_lt 0 (length (delimiters text))
    && (list_all is_delimiter (delimiters text) && (has 124 text || has 58 text))
