-- Worked trees of line endings that are printed: a node before them clears the mark to slurp one.
use Rattle.std.specs.Prelude.{ℕ, List, [], ◌∷◌, ◌++◌, codes}
use Rattle.md_base.specs.declared.event.Name.TheVariants as name_variants
use name_variants.{BlankLineEnding, BlockQuote, CodeFenced, CodeFencedFence, CodeIndented, Data}
use name_variants.{Frontmatter, GfmTable, GfmTableCell, GfmTableDelimiterRow, GfmTableHead}
use name_variants.{GfmTableRow, LineEnding, ListItem, ListItemMarker, ListItemPrefix, ListUnordered}
use name_variants.{MathFlow, MathFlowFence, Paragraph, SpaceOrTab}
use Rattle.md_base.specs.Tree.{Forest, Empty, Node}
use Rattle.md_meaning.specs.Trees.{at}

-- a line ending after frontmatter and a blank line, which clears the mark to slurp it: the tree,
-- its bytes and its text
abbrev pub ending_after_a_blank_line : Forest
ending_after_a_blank_line =
    Node Frontmatter (at 0) (at 0) (Empty) (Node BlankLineEnding (at 0) (at 1) (Empty)
    (Node LineEnding (at 1) (at 2) (Empty) (Empty)))

abbrev pub ending_after_a_blank_line_bytes : List ℕ
ending_after_a_blank_line_bytes = (10 ∷ []) ++ (10 ∷ [])

abbrev pub ending_after_a_blank_line_text : List ℕ
ending_after_a_blank_line_text = (10 ∷ [])

-- a line ending after frontmatter and a block quote, which clears the mark to slurp it: the tree,
-- its bytes and its text
abbrev pub ending_after_a_quote : Forest
ending_after_a_quote =
    Node Frontmatter (at 0) (at 0) (Empty) (Node BlockQuote (at 0) (at 0) (Empty)
    (Node LineEnding (at 0) (at 1) (Empty) (Empty)))

abbrev pub ending_after_a_quote_bytes : List ℕ
ending_after_a_quote_bytes = (10 ∷ [])

abbrev pub ending_after_a_quote_text : List ℕ
ending_after_a_quote_text = codes "<blockquote>" ++ (10 ∷ []) ++ codes "</blockquote>" ++ (10 ∷ [])

-- a line ending after frontmatter and indented code, which clears the mark to slurp it: the tree,
-- its bytes and its text
abbrev pub ending_after_indented_code : Forest
ending_after_indented_code =
    Node Frontmatter (at 0) (at 0) (Empty) (Node CodeIndented (at 0) (at 0) (Empty)
    (Node LineEnding (at 0) (at 1) (Empty) (Empty)))

abbrev pub ending_after_indented_code_bytes : List ℕ
ending_after_indented_code_bytes = (10 ∷ [])

abbrev pub ending_after_indented_code_text : List ℕ
ending_after_indented_code_text = codes "<pre><code></code></pre>" ++ (10 ∷ [])

-- a line ending after fenced code, which clears the mark that its fence sets: the tree, its bytes
-- and its text
abbrev pub ending_after_fenced_code : Forest
ending_after_fenced_code =
    Node CodeFenced (at 0) (at 6) (Node CodeFencedFence (at 0) (at 3) (Empty)
    (Node CodeFencedFence (at 3) (at 6) (Empty) (Empty)))
    (Node LineEnding (at 6) (at 7) (Empty) (Empty))

abbrev pub ending_after_fenced_code_bytes : List ℕ
ending_after_fenced_code_bytes = codes "``````" ++ (10 ∷ [])

abbrev pub ending_after_fenced_code_text : List ℕ
ending_after_fenced_code_text = codes "<pre><code></code></pre>" ++ (10 ∷ [])

-- a line ending after math, which clears the mark that its fence sets: the tree, its bytes and its
-- text
abbrev pub ending_after_math : Forest
ending_after_math =
    Node MathFlow (at 0) (at 4) (Node MathFlowFence (at 0) (at 2) (Empty)
    (Node MathFlowFence (at 2) (at 4) (Empty) (Empty)))
    (Node LineEnding (at 4) (at 5) (Empty) (Empty))

abbrev pub ending_after_math_bytes : List ℕ
ending_after_math_bytes = codes "$$$$" ++ (10 ∷ [])

abbrev pub ending_after_math_text : List ℕ
ending_after_math_text =
    codes "<pre><code class=\"language-math math-display\"></code></pre>" ++ (10 ∷ [])

-- a line ending after a tight list, whose item clears the mark that its paragraph sets: the tree,
-- its bytes and its text
abbrev pub ending_after_a_tight_list : Forest
ending_after_a_tight_list =
    Node ListUnordered (at 0) (at 3) (Node ListItem (at 0) (at 3)
    (Node ListItemPrefix (at 0) (at 2) (Node ListItemMarker (at 0) (at 1) (Empty)
    (Node SpaceOrTab (at 1) (at 2) (Empty) (Empty))) (Node Paragraph (at 2) (at 3)
    (Node Data (at 2) (at 3) (Empty) (Empty)) (Empty))) (Empty))
    (Node LineEnding (at 3) (at 4) (Empty) (Empty))

abbrev pub ending_after_a_tight_list_bytes : List ℕ
ending_after_a_tight_list_bytes = codes "- a" ++ (10 ∷ [])

abbrev pub ending_after_a_tight_list_text : List ℕ
ending_after_a_tight_list_text =
    codes "<ul>" ++ (10 ∷ []) ++ codes "<li>a</li>" ++ (10 ∷ []) ++ codes "</ul>" ++ (10 ∷ [])

-- a line ending in a cell that prints nothing, which clears the mark to slurp it: the tree, its
-- bytes and its text
abbrev pub ending_in_a_dropped_cell : Forest
ending_in_a_dropped_cell =
    Node Frontmatter (at 0) (at 0) (Empty) (Node GfmTable (at 0) (at 3)
    (Node GfmTableHead (at 0) (at 3) (Node GfmTableRow (at 0) (at 2)
    (Node GfmTableCell (at 1) (at 2) (Node LineEnding (at 1) (at 2) (Empty) (Empty)) (Empty))
    (Node GfmTableDelimiterRow (at 2) (at 3) (Empty) (Empty))) (Empty))
    (Node LineEnding (at 3) (at 4) (Empty) (Empty)))

abbrev pub ending_in_a_dropped_cell_bytes : List ℕ
ending_in_a_dropped_cell_bytes = codes "|" ++ (10 ∷ []) ++ codes "|" ++ (10 ∷ [])

abbrev pub ending_in_a_dropped_cell_text : List ℕ
ending_in_a_dropped_cell_text =
    codes "<table>" ++ (10 ∷ []) ++ codes "<thead>" ++ (10 ∷ []) ++ codes "<tr>" ++ (10 ∷ [])
    ++ codes "</tr>" ++ (10 ∷ []) ++ codes "</thead>" ++ (10 ∷ []) ++ codes "</table>" ++ (10 ∷ [])
