-- The alignments of a table's columns.
use Rattle.std.specs.Prelude.{Bool, false, if◌then◌else◌, List, [], ◌∷◌, ◌++◌}
use Rattle.std.specs.Option.{option_map_or}
use Rattle.md_base.specs.declared.event.AlignKind.{AlignKind}
use Rattle.md_base.specs.declared.event.AlignKind.TheVariants.{Left, Right, Center, None}
use Rattle.md_base.specs.Tree.{Forest, Empty, Node}
use Rattle.md_base.specs.declared.event.Name.TheVariants.{GfmTableDelimiterCellValue}
use Rattle.md_base.specs.declared.event.Name.TheVariants.{GfmTableDelimiterMarker}
use Rattle.md_base.specs.Is.{is}
use Rattle.md_base.specs.NameTests.{leads_to_values}
use Rattle.md_base.specs.Children.{last_name}

-- the first child is a marker, and below, the last child is
abbrev pub begins_with_marker : Forest → Bool
begins_with_marker nodes =
    elim nodes [ Empty ↦ false | Node name _ _ _ _ ↦ is GfmTableDelimiterMarker name ]

abbrev pub ends_with_marker : Forest → Bool
ends_with_marker children = option_map_or (is GfmTableDelimiterMarker) (last_name children) false

-- the alignment of a column whose value has these children
abbrev pub alignment_of : Forest → AlignKind
alignment_of children =
    if begins_with_marker children then (if ends_with_marker children then Center else Left)
    else (if ends_with_marker children then Right else None)

-- the alignments of a table with these children: one for each delimiter cell value inside heads,
-- delimiter rows and transparent nodes
abbrev pub alignments : Forest → List AlignKind
alignments Empty = []
alignments (Node name start end children rest) =
    (if is GfmTableDelimiterCellValue name then alignment_of children ∷ []
    else (if leads_to_values name then alignments children else [])) ++ alignments rest
