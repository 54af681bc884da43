-- Blocks of the parser's own rules, which neither CommonMark nor the GFM specification has: math, and
-- definitions of footnotes. A text is the rest of a line after its indentation.
use Rattle.std.specs.Prelude.{ℕ, Bool, Option, List, [], ◌∷◌, ◌+◌, ◌==◌, ◌&&◌, ◌||◌, not, nat_lt}
use Rattle.std.specs.Prelude.{drop, take, get_or, length, min, if◌then◌else◌}
use Rattle.std.specs.List.{prefix_len}
use Rattle.md_blocks.specs.declared.block.ContainerKind.TheVariants.{FootnoteDefinition}
use Rattle.md_blocks.specs.Marks.{run_of}
use Rattle.md_blocks.specs.Leaves.{blanks, opens_math}
use Rattle.md_blocks.specs.Rests.{Rest, is_none, passed, unindented}
use Rattle.md_blocks.specs.Entries.{FootnoteBegins}
use Rattle.md_blocks.specs.States.{State, InMath, opened_in, room, with_entries, with_leaf}
use Rattle.md_blocks.specs.LeafBlocks.{a_line, fence_of, if_begun}
use Rattle.md_blocks.specs.ContainerBlocks.{container_of}

-- math: at a fence of dollar signs; the text after it on its line is the first line of the math
abbrev pub after_dollars : List ℕ → List ℕ
after_dollars text = let after = drop (run_of 36 text) text in drop (blanks after) after

abbrev pub math_begun : ℕ → ℕ → Rest → List ℕ → State → Option State
math_begun defined depth rest ending state =
    let content = after_dollars (unindented rest) in
    if_begun (opens_math (unindented rest)) (with_leaf (InMath (fence_of 36 rest)
    (if is_none content then [] else a_line content ending ∷ [])) (room defined depth state))

-- whether a byte may be in the label of a footnote: no bracket, space, tab or NUL
abbrev pub is_in_label : ℕ → Bool
is_in_label byte = not (byte == 93 || (byte == 91 || (byte == 32 || (byte == 9 || byte == 0))))

-- how long the label is that begins a text, counted up to 998
abbrev pub label_length : List ℕ → ℕ
label_length text = min 998 (prefix_len is_in_label text)

-- whether a label begins a text, and then a bracket and a colon
abbrev pub is_label : List ℕ → Bool
is_label text =
    nat_lt 0 (label_length text) && (nat_lt (label_length text + 1) (length text)
    && (get_or text (label_length text) 0 == 93 && get_or text (label_length text + 1) 0 == 58))

-- whether a text begins the definition of a footnote: `[^`, a label, and `]:`
abbrev pub opens_footnote : List ℕ → Bool
opens_footnote text =
    nat_lt 1 (length text)
    && (get_or text 0 0 == 91 && (get_or text 1 0 == 94 && is_label (drop 2 text)))

-- its label
abbrev pub label_of : List ℕ → List ℕ
label_of text = take (label_length (drop 2 text)) (drop 2 text)

-- the definition of a footnote, and the rest of the line after its mark
abbrev pub footnote_begun : ℕ → ℕ → Rest → State → Option State
footnote_begun defined depth rest state =
    let label = label_of (unindented rest) in
    if_begun (opens_footnote (unindented rest)) (opened_in (container_of FootnoteDefinition 0 0)
    (with_entries (FootnoteBegins label ∷ []) (room defined depth state)))

abbrev pub after_footnote : Rest → Rest
after_footnote rest =
    passed 0 (passed (label_length (drop 2 (unindented rest)) + 4) rest)
