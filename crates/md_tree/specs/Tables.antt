-- The cell values of a table's delimiter row.
use Rattle.std.specs.Prelude.{Bool, None, if◌then◌else◌, List, [], ◌∷◌, ◌++◌}
use Rattle.md_base.specs.declared.event.Name.{Name}
use Rattle.md_pattern.specs.declared.kinds.Role.TheVariants as role
use Rattle.md_base.specs.Tree.{Forest, Empty, Node}
use Rattle.md_base.specs.NameTests.{is_transparent, is_table_head, is_delimiter_row}
use Rattle.md_base.specs.Is.{is}
use Rattle.md_base.specs.declared.event.Name.TheVariants.{GfmTableDelimiterCellValue}
use Rattle.md_pattern.specs.Spine.{spine, Matches}
use Rattle.md_pattern.specs.Shape.{AreShaped}

-- the results of a function for each node on the spine whose name passes a test, in order
abbrev pub in_each : {A : Type 0} → (Name → Bool) → (Forest → List A) → Forest → List A
in_each test found Empty = []
in_each test found (Node name start end children rest) =
    (if test name then found children
    else (if is_transparent name then in_each test found children else []))
    ++ in_each test found rest

-- the children of each cell value on the spine of a delimiter row with these children, in order
abbrev pub values_of_row : Forest → List Forest
values_of_row children = in_each (is GfmTableDelimiterCellValue) (λ value. value ∷ []) children

-- those of the delimiter rows on a head's spine
abbrev pub values_of_head : Forest → List Forest
values_of_head children = in_each is_delimiter_row values_of_row children

-- those of the heads on a table's spine
abbrev pub values_of_table : Forest → List Forest
values_of_table children = in_each is_table_head values_of_head children

-- nodes have the shape of a table's children in the grammar
abbrev pub IsTable : Forest → Type 0
IsTable children = AreShaped children role.Table None × Matches role.Table (spine children)
