-- The cells of a table's row (GFM 4.10). A text is a row without its line ending.
use Rattle.std.specs.Prelude.{ℕ, Bool, List, [], ◌∷◌, ◌==◌, ◌&&◌, not, false, suc, drop}
use Rattle.std.specs.Prelude.{if◌then◌else◌}
use Rattle.std.specs.List.{onto_first}
use Rattle.md_blocks.specs.Leaves.{blanks, without_blanks, without_first}

-- whether a byte ends a cell: a bar without a backslash before it
abbrev pub ends_cell : Bool → ℕ → Bool
ends_cell is_escaped byte = byte == 124 && not is_escaped

-- how long the first cell of a text is; `is_escaped` says whether a backslash is before the text
abbrev pub bar_at : Bool → List ℕ → ℕ
bar_at is_escaped [] = 0
bar_at is_escaped (byte ∷ rest) =
    if ends_cell is_escaped byte then 0 else suc (bar_at (byte == 92) rest)

-- the cells of a text, each up to a bar that ends it or the end
abbrev pub cells_after : Bool → List ℕ → List (List ℕ)
cells_after is_escaped [] = []
cells_after is_escaped (byte ∷ rest) =
    if ends_cell is_escaped byte then [] ∷ cells_after false rest
    else onto_first byte (cells_after (byte == 92) rest)

-- a row without the spaces and tabs around it, and without its leading bar
abbrev pub inside_row : List ℕ → List ℕ
inside_row text = without_first 124 (without_blanks (drop (blanks text) text))

-- the cells of a row
abbrev pub row_cells : List ℕ → List (List ℕ)
row_cells text = cells_after false (inside_row text)
