-- What rows and cells of tables mean.
use Rattle.std.specs.Prelude.{ℕ, Bool, if◌then◌else◌, List, [], ◌∷◌, ◌++◌, drop, codes, slice_get}
use Rattle.std.specs.Prelude.{count_by}
use Rattle.std.specs.Option.{option_map_or}
use Rattle.std.specs.List.{flat_map}
use Rattle.md_base.specs.declared.event.AlignKind.{AlignKind}
use Rattle.md_base.specs.declared.event.AlignKind.TheVariants as align
use Rattle.md_base.specs.declared.event.Name.TheVariants.{GfmTableCell}
use Rattle.md_base.specs.Is.{is}
use Rattle.md_base.specs.Children.{spine_names}
use Rattle.md_meaning.specs.Meaning.Layout.{Piece, Text, on_own_line}
use Rattle.md_meaning.specs.Meaning.At.{At}

-- the attribute for a column's alignment
abbrev pub align_attribute : AlignKind → List ℕ
align_attribute align.None = []
align_attribute align.Left = codes " align=\"left\""
align_attribute align.Right = codes " align=\"right\""
align_attribute align.Center = codes " align=\"center\""

-- the cell of a column, in a table's head or its body
abbrev pub cell_of : Bool → List ℕ → AlignKind → List Piece
cell_of in_head text kind =
    on_own_line (if in_head then codes "<th" else codes "<td")
    ++ (Text (align_attribute kind) ∷ Text (codes ">")
    ∷ Text text ∷ Text (if in_head then codes "</th>" else codes "</td>") ∷ [])

-- a cell, if the table has its column
abbrev pub cell : At → List ℕ → List Piece
cell at text = option_map_or (λ kind. cell_of at.around.in_head text kind)
    (slice_get at.before.columns (count_by (is GfmTableCell) at.before.spine)) []

-- the end of a row, with empty cells for the columns that it lacks
abbrev pub row_end : At → List Piece
row_end at = flat_map (cell_of at.around.in_head [])
    (drop (count_by (is GfmTableCell) (spine_names at.children)) at.before.columns)
    ++ on_own_line (codes "</tr>")
