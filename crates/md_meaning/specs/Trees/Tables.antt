-- Worked trees of tables.
use Rattle.std.specs.Prelude.{ℕ, List, [], ◌∷◌, ◌++◌, codes}
use Rattle.md_base.specs.declared.event.Name.TheVariants as name_variants
use name_variants.{BlankLineEnding, CodeText, CodeTextData, Data, GfmFootnoteCall}
use name_variants.{GfmFootnoteDefinition, GfmFootnoteDefinitionLabelString}
use name_variants.{GfmFootnoteDefinitionPrefix, GfmTable, GfmTableBody, GfmTableCell}
use name_variants.{GfmTableDelimiterCellValue, GfmTableDelimiterMarker, GfmTableDelimiterRow}
use name_variants.{GfmTableHead, GfmTableRow, Label, LabelText, LineEnding, Other, Paragraph}
use Rattle.md_base.specs.Tree.{Forest, Empty, Node}
use Rattle.md_meaning.specs.Trees.{at, call_tag, section_head, way_back}

-- short table row: the tree, its bytes and its text
abbrev pub short_table_row : Forest
short_table_row =
    Node GfmTable (at 0) (at 13) (Node GfmTableHead (at 0) (at 7) (Node GfmTableRow (at 0) (at 3)
    (Node GfmTableCell (at 0) (at 3) (Node Data (at 1) (at 2) (Empty) (Empty))
    (Empty)) (Node LineEnding (at 3) (at 4) (Empty) (Node GfmTableDelimiterRow (at 4) (at 7)
    (Node GfmTableDelimiterCellValue (at 5) (at 6) (Empty) (Empty)) (Empty))))
    (Node LineEnding (at 7) (at 8) (Empty) (Node GfmTableBody (at 8) (at 13) (Node GfmTableRow
    (at 8) (at 13) (Node GfmTableCell (at 8) (at 10) (Node Data (at 9) (at 10) (Empty) (Empty))
    (Node GfmTableCell (at 10) (at 13) (Node Data (at 11) (at 12) (Empty) (Empty)) (Empty)))
    (Empty)) (Empty))))
    (Empty)

abbrev pub short_table_row_bytes : List ℕ
short_table_row_bytes = codes "|a|" ++ (10 ∷ []) ++ codes "|-|" ++ (10 ∷ []) ++ codes "|b|c|"

abbrev pub short_table_row_text : List ℕ
short_table_row_text = codes "<table>" ++ (10 ∷ []) ++ codes "<thead>" ++ (10 ∷ []) ++ codes "<tr>"
    ++ (10 ∷ []) ++ codes "<th>a</th>" ++ (10 ∷ []) ++ codes "</tr>" ++ (10 ∷ [])
    ++ codes "</thead>" ++ (10 ∷ [])
    ++ codes "<tbody>" ++ (10 ∷ []) ++ codes "<tr>" ++ (10 ∷ []) ++ codes "<td>b</td>" ++ (10 ∷ [])
    ++ codes "</tr>"
    ++ (10 ∷ []) ++ codes "</tbody>" ++ (10 ∷ []) ++ codes "</table>"

-- call in a dropped cell: the tree, its bytes and its text
abbrev pub call_in_a_dropped_cell : Forest
call_in_a_dropped_cell =
    Node GfmTable (at 0) (at 16) (Node GfmTableHead (at 0) (at 7) (Node GfmTableRow (at 0) (at 3)
    (Node GfmTableCell (at 0) (at 3) (Node Data (at 1) (at 2) (Empty) (Empty))
    (Empty)) (Node LineEnding (at 3) (at 4) (Empty) (Node GfmTableDelimiterRow (at 4) (at 7)
    (Node GfmTableDelimiterCellValue (at 5) (at 6) (Empty) (Empty)) (Empty))))
    (Node LineEnding (at 7) (at 8) (Empty) (Node GfmTableBody (at 8) (at 16) (Node GfmTableRow
    (at 8) (at 16) (Node GfmTableCell (at 8) (at 10) (Node Data (at 9) (at 10) (Empty) (Empty))
    (Node GfmTableCell (at 10) (at 16) (Node GfmFootnoteCall (at 11) (at 15) (Node Label (at 11)
    (at 15) (Node LabelText (at 13) (at 14) (Node Data (at 13) (at 14) (Empty) (Empty)) (Empty))
    (Empty)) (Empty)) (Empty))) (Empty)) (Empty)))) (Node LineEnding (at 16) (at 17) (Empty)
    (Node BlankLineEnding (at 17) (at 18) (Empty) (Node GfmFootnoteDefinition (at 18) (at 25)
    (Node GfmFootnoteDefinitionPrefix (at 18) (at 24) (Node GfmFootnoteDefinitionLabelString (at 20)
    (at 21) (Node Data (at 20) (at 21) (Empty) (Empty)) (Empty))
    (Node Paragraph (at 24) (at 25) (Node Data (at 24) (at 25) (Empty) (Empty)) (Empty))) (Empty))))

abbrev pub call_in_a_dropped_cell_bytes : List ℕ
call_in_a_dropped_cell_bytes =
    codes "|a|" ++ (10 ∷ []) ++ codes "|-|" ++ (10 ∷ []) ++ codes "|b|[^c]|"
    ++ (10 ∷ [])
    ++ (10 ∷ []) ++ codes "[^c]: d"

abbrev pub call_in_a_dropped_cell_text : List ℕ
call_in_a_dropped_cell_text =
    codes "<table>" ++ (10 ∷ []) ++ codes "<thead>" ++ (10 ∷ []) ++ codes "<tr>" ++ (10 ∷ [])
    ++ codes "<th>a</th>"
    ++ (10 ∷ []) ++ codes "</tr>" ++ (10 ∷ []) ++ codes "</thead>" ++ (10 ∷ [])
    ++ codes "<tbody>" ++ (10 ∷ [])
    ++ codes "<tr>" ++ (10 ∷ []) ++ codes "<td>b</td>" ++ (10 ∷ []) ++ codes "</tr>" ++ (10 ∷ [])
    ++ codes "</tbody>" ++ (10 ∷ []) ++ codes "</table>" ++ (10 ∷ []) ++ section_head ++ (10 ∷ [])
    ++ codes "<ol>" ++ (10 ∷ []) ++ codes "<li id=\"user-content-fn-c\">" ++ (10 ∷ [])
    ++ codes "<p>d " ++ way_back "c"
    ++ codes "</p>" ++ (10 ∷ []) ++ codes "</li>" ++ (10 ∷ []) ++ codes "</ol>" ++ (10 ∷ [])
    ++ codes "</section>" ++ (10 ∷ [])

-- code with a pipe in a table: the tree, its bytes and its text
abbrev pub code_with_a_pipe_in_a_table : Forest
code_with_a_pipe_in_a_table =
    Node GfmTable (at 0) (at 12) (Node GfmTableHead (at 0) (at 12)
    (Node GfmTableRow (at 0) (at 8) (Node GfmTableCell (at 0) (at 8)
    (Node CodeText (at 1) (at 7) (Node CodeTextData (at 2) (at 6) (Empty) (Empty)) (Empty)) (Empty))
    (Node LineEnding (at 8) (at 9) (Empty) (Node GfmTableDelimiterRow (at 9) (at 12)
    (Node GfmTableDelimiterCellValue (at 10) (at 11) (Empty) (Empty)) (Empty)))) (Empty)) (Empty)

abbrev pub code_with_a_pipe_in_a_table_bytes : List ℕ
code_with_a_pipe_in_a_table_bytes = codes "|`a\\|b`|" ++ (10 ∷ []) ++ codes "|-|"

abbrev pub code_with_a_pipe_in_a_table_text : List ℕ
code_with_a_pipe_in_a_table_text =
    codes "<table>" ++ (10 ∷ []) ++ codes "<thead>" ++ (10 ∷ []) ++ codes "<tr>"
    ++ (10 ∷ []) ++ codes "<th><code>a|b</code></th>" ++ (10 ∷ []) ++ codes "</tr>" ++ (10 ∷ [])
    ++ codes "</thead>"
    ++ (10 ∷ []) ++ codes "</table>"

-- aligned column: the tree, its bytes and its text
abbrev pub aligned_column : Forest
aligned_column =
    Node GfmTable (at 0) (at 8) (Node GfmTableHead (at 0) (at 8) (Node GfmTableRow (at 0) (at 3)
    (Node GfmTableCell (at 0) (at 3) (Node Data (at 1) (at 2) (Empty) (Empty))
    (Empty)) (Node LineEnding (at 3) (at 4) (Empty) (Node GfmTableDelimiterRow (at 4) (at 8)
    (Node GfmTableDelimiterCellValue (at 5) (at 7) (Node GfmTableDelimiterMarker (at 5) (at 6)
    (Empty) (Node (Other 1) (at 6) (at 7) (Empty) (Empty))) (Empty)) (Empty)))) (Empty)) (Empty)

abbrev pub aligned_column_bytes : List ℕ
aligned_column_bytes = codes "|a|" ++ (10 ∷ []) ++ codes "|:-|"

abbrev pub aligned_column_text : List ℕ
aligned_column_text = codes "<table>" ++ (10 ∷ []) ++ codes "<thead>" ++ (10 ∷ []) ++ codes "<tr>"
    ++ (10 ∷ []) ++ codes "<th align=\"left\">a</th>" ++ (10 ∷ []) ++ codes "</tr>"
    ++ (10 ∷ []) ++ codes "</thead>"
    ++ (10 ∷ [])
    ++ codes "</table>"

-- head without cells: the tree, its bytes and its text
abbrev pub head_without_cells : Forest
head_without_cells =
    Node GfmTable (at 0) (at 0) (Node GfmTableHead (at 0) (at 0)
    (Node GfmTableRow (at 0) (at 0) (Empty) (Node GfmTableDelimiterRow (at 0) (at 0)
    (Node GfmTableDelimiterCellValue (at 0) (at 0) (Empty) (Empty)) (Empty))) (Empty)) (Empty)

abbrev pub head_without_cells_bytes : List ℕ
head_without_cells_bytes = []

abbrev pub head_without_cells_text : List ℕ
head_without_cells_text =
    codes "<table>" ++ (10 ∷ []) ++ codes "<thead>" ++ (10 ∷ []) ++ codes "<tr>"
    ++ (10 ∷ [])
    ++ codes "<th></th>" ++ (10 ∷ []) ++ codes "</tr>" ++ (10 ∷ []) ++ codes "</thead>" ++ (10 ∷ [])
    ++ codes "</table>"

-- a table of four columns, with a short row and a long one: the tree, its bytes and its text
abbrev pub table_of_each_alignment : Forest
table_of_each_alignment =
    Node GfmTable (at 0) (at 35) (Node GfmTableHead (at 0) (at 21) (Node GfmTableRow (at 0) (at 8)
    (Node GfmTableCell (at 1) (at 2) (Node Data (at 1) (at 2) (Empty) (Empty))
    (Node GfmTableCell (at 3) (at 4) (Node Data (at 3) (at 4) (Empty) (Empty))
    (Node GfmTableCell (at 5) (at 6) (Node Data (at 5) (at 6) (Empty) (Empty))
    (Node GfmTableCell (at 7) (at 8) (Node Data (at 7) (at 8) (Empty) (Empty)) (Empty)))))
    (Node LineEnding (at 8) (at 9) (Empty) (Node GfmTableDelimiterRow (at 9) (at 21)
    (Node GfmTableDelimiterCellValue (at 10) (at 12) (Node GfmTableDelimiterMarker (at 10) (at 11)
    (Empty) (Node (Other 1) (at 11) (at 12) (Empty) (Empty)))
    (Node GfmTableDelimiterCellValue (at 13) (at 15) (Node (Other 1) (at 13) (at 14) (Empty)
    (Node GfmTableDelimiterMarker (at 14) (at 15) (Empty) (Empty))) (Node GfmTableDelimiterCellValue
    (at 16) (at 19) (Node GfmTableDelimiterMarker (at 16) (at 17) (Empty) (Node (Other 1) (at 17)
    (at 18) (Empty) (Node GfmTableDelimiterMarker (at 18) (at 19) (Empty) (Empty))))
    (Node GfmTableDelimiterCellValue (at 20) (at 21) (Node (Other 1) (at 20) (at 21) (Empty)
    (Empty)) (Empty))))) (Empty)))) (Node LineEnding (at 21) (at 22) (Empty)
    (Node GfmTableBody (at 22) (at 35) (Node GfmTableRow (at 22) (at 24)
    (Node GfmTableCell (at 23) (at 24) (Node Data (at 23) (at 24) (Empty) (Empty)) (Empty))
    (Node LineEnding (at 24) (at 25) (Empty) (Node GfmTableRow (at 25) (at 35)
    (Node GfmTableCell (at 26) (at 27) (Node Data (at 26) (at 27) (Empty) (Empty))
    (Node GfmTableCell (at 28) (at 29) (Node Data (at 28) (at 29) (Empty) (Empty))
    (Node GfmTableCell (at 30) (at 31) (Node Data (at 30) (at 31) (Empty) (Empty))
    (Node GfmTableCell (at 32) (at 33) (Node Data (at 32) (at 33) (Empty) (Empty))
    (Node GfmTableCell (at 34) (at 35) (Node Data (at 34) (at 35) (Empty) (Empty)) (Empty))))))
    (Empty))))
    (Empty)))) (Empty)

abbrev pub table_of_each_alignment_bytes : List ℕ
table_of_each_alignment_bytes =
    codes "|a|b|c|d" ++ (10 ∷ []) ++ codes "|:-|-:|:-:|-" ++ (10 ∷ []) ++ codes "|e"
    ++ (10 ∷ []) ++ codes "|f|g|h|i|j"

abbrev pub table_of_each_alignment_text : List ℕ
table_of_each_alignment_text =
    codes "<table>" ++ (10 ∷ []) ++ codes "<thead>" ++ (10 ∷ []) ++ codes "<tr>"
    ++ (10 ∷ []) ++ codes "<th align=\"left\">a</th>" ++ (10 ∷ [])
    ++ codes "<th align=\"right\">b</th>"
    ++ (10 ∷ [])
    ++ codes "<th align=\"center\">c</th>" ++ (10 ∷ []) ++ codes "<th>d</th>"
    ++ (10 ∷ []) ++ codes "</tr>"
    ++ (10 ∷ []) ++ codes "</thead>" ++ (10 ∷ []) ++ codes "<tbody>" ++ (10 ∷ []) ++ codes "<tr>"
    ++ (10 ∷ []) ++ codes "<td align=\"left\">e</td>" ++ (10 ∷ [])
    ++ codes "<td align=\"right\"></td>" ++ (10 ∷ []) ++ codes "<td align=\"center\"></td>"
    ++ (10 ∷ []) ++ codes "<td></td>" ++ (10 ∷ []) ++ codes "</tr>"
    ++ (10 ∷ [])
    ++ codes "<tr>" ++ (10 ∷ []) ++ codes "<td align=\"left\">f</td>" ++ (10 ∷ [])
    ++ codes "<td align=\"right\">g</td>" ++ (10 ∷ []) ++ codes "<td align=\"center\">h</td>"
    ++ (10 ∷ []) ++ codes "<td>i</td>" ++ (10 ∷ []) ++ codes "</tr>" ++ (10 ∷ [])
    ++ codes "</tbody>" ++ (10 ∷ []) ++ codes "</table>"

-- head without delimiter values: the tree, its bytes and its text
abbrev pub head_without_delimiter_values : Forest
head_without_delimiter_values =
    Node GfmTable (at 0) (at 4) (Node GfmTableHead (at 0) (at 4) (Node GfmTableRow (at 0) (at 2)
    (Node GfmTableCell (at 1) (at 2) (Node Data (at 1) (at 2) (Empty) (Empty))
    (Empty)) (Node LineEnding (at 2) (at 3) (Empty)
    (Node GfmTableDelimiterRow (at 3) (at 4) (Empty) (Empty))))
    (Empty)) (Empty)

abbrev pub head_without_delimiter_values_bytes : List ℕ
head_without_delimiter_values_bytes = codes "|a" ++ (10 ∷ []) ++ codes "|"

abbrev pub head_without_delimiter_values_text : List ℕ
head_without_delimiter_values_text =
    codes "<table>" ++ (10 ∷ []) ++ codes "<thead>" ++ (10 ∷ []) ++ codes "<tr>"
    ++ (10 ∷ []) ++ codes "</tr>" ++ (10 ∷ []) ++ codes "</thead>" ++ (10 ∷ []) ++ codes "</table>"

-- body without an ending before it: the tree, its bytes and its text
abbrev pub body_without_an_ending_before_it : Forest
body_without_an_ending_before_it =
    Node GfmTable (at 0) (at 7) (Node GfmTableHead (at 0) (at 5) (Node GfmTableRow (at 0) (at 2)
    (Node GfmTableCell (at 1) (at 2) (Node Data (at 1) (at 2) (Empty) (Empty))
    (Empty)) (Node LineEnding (at 2) (at 3) (Empty) (Node GfmTableDelimiterRow (at 3) (at 5)
    (Node GfmTableDelimiterCellValue (at 4) (at 5)
    (Node (Other 1) (at 4) (at 5) (Empty) (Empty)) (Empty))
    (Empty)))) (Node GfmTableBody (at 5) (at 7) (Node GfmTableRow (at 5) (at 7)
    (Node GfmTableCell (at 6) (at 7) (Node Data (at 6) (at 7) (Empty) (Empty)) (Empty)) (Empty))
    (Empty))) (Empty)

abbrev pub body_without_an_ending_before_it_bytes : List ℕ
body_without_an_ending_before_it_bytes = codes "|a" ++ (10 ∷ []) ++ codes "|-|b"

abbrev pub body_without_an_ending_before_it_text : List ℕ
body_without_an_ending_before_it_text =
    codes "<table>" ++ (10 ∷ []) ++ codes "<thead>" ++ (10 ∷ []) ++ codes "<tr>" ++ (10 ∷ [])
    ++ codes "<th>a</th>" ++ (10 ∷ []) ++ codes "</tr>" ++ (10 ∷ []) ++ codes "</thead><tbody>"
    ++ (10 ∷ []) ++ codes "<tr>" ++ (10 ∷ []) ++ codes "<td>b</td>" ++ (10 ∷ []) ++ codes "</tr>"
    ++ (10 ∷ []) ++ codes "</tbody>" ++ (10 ∷ []) ++ codes "</table>"

-- call in a head: the tree, its bytes and its text
abbrev pub call_in_a_head : Forest
call_in_a_head =
    Node GfmTable (at 0) (at 9) (Node GfmTableHead (at 0) (at 9)
    (Node GfmTableRow (at 0) (at 5) (Node GfmTableCell (at 1) (at 5) (Node GfmFootnoteCall (at 1)
    (at 5) (Node Label (at 1) (at 5) (Node LabelText (at 3) (at 4) (Empty) (Empty))
    (Empty)) (Empty)) (Empty)) (Node LineEnding (at 5) (at 6) (Empty)
    (Node GfmTableDelimiterRow (at 6) (at 9) (Node GfmTableDelimiterCellValue (at 7) (at 9)
    (Node (Other 1) (at 7) (at 8) (Empty)
    (Node GfmTableDelimiterMarker (at 8) (at 9) (Empty) (Empty))) (Empty))
    (Empty)))) (Empty)) (Node GfmFootnoteDefinition (at 9) (at 15) (Node GfmFootnoteDefinitionPrefix
    (at 9) (at 14) (Node GfmFootnoteDefinitionLabelString (at 11) (at 12) (Empty) (Empty))
    (Node Paragraph (at 14) (at 15) (Node Data (at 14) (at 15) (Empty) (Empty)) (Empty))) (Empty))

abbrev pub call_in_a_head_bytes : List ℕ
call_in_a_head_bytes = codes "|[^b]" ++ (10 ∷ []) ++ codes "|-:[^b]:c"

abbrev pub call_in_a_head_text : List ℕ
call_in_a_head_text =
    codes "<table>" ++ (10 ∷ []) ++ codes "<thead>" ++ (10 ∷ []) ++ codes "<tr>" ++ (10 ∷ [])
    ++ codes "<th align=\"right\">" ++ call_tag "b" "b" "1" ++ codes "</th>"
    ++ (10 ∷ []) ++ codes "</tr>"
    ++ (10 ∷ []) ++ codes "</thead>" ++ (10 ∷ []) ++ codes "</table>" ++ (10 ∷ []) ++ section_head
    ++ (10 ∷ []) ++ codes "<ol>" ++ (10 ∷ []) ++ codes "<li id=\"user-content-fn-b\">"
    ++ (10 ∷ []) ++ codes "<p>c "
    ++ way_back "b" ++ codes "</p>" ++ (10 ∷ []) ++ codes "</li>" ++ (10 ∷ []) ++ codes "</ol>"
    ++ (10 ∷ []) ++ codes "</section>" ++ (10 ∷ [])

-- table in a footnote: the tree, its bytes and its text
abbrev pub table_in_a_footnote : Forest
table_in_a_footnote =
    Node Paragraph (at 0) (at 4) (Node GfmFootnoteCall (at 0) (at 4)
    (Node Label (at 0) (at 4) (Node LabelText (at 2) (at 3) (Empty) (Empty)) (Empty)) (Empty))
    (Node GfmFootnoteDefinition (at 4) (at 14) (Node GfmFootnoteDefinitionPrefix (at 4) (at 9)
    (Node GfmFootnoteDefinitionLabelString (at 6) (at 7) (Empty) (Empty))
    (Node GfmTable (at 9) (at 14) (Node GfmTableHead (at 9) (at 14) (Node GfmTableRow (at 9) (at 11)
    (Node GfmTableCell (at 10) (at 11) (Node Data (at 10) (at 11) (Empty) (Empty))
    (Empty)) (Node LineEnding (at 11) (at 12) (Empty) (Node GfmTableDelimiterRow (at 12) (at 14)
    (Node GfmTableDelimiterCellValue (at 13) (at 14)
    (Node (Other 1) (at 13) (at 14) (Empty) (Empty)) (Empty)) (Empty)))) (Empty)) (Empty))) (Empty))

abbrev pub table_in_a_footnote_bytes : List ℕ
table_in_a_footnote_bytes = codes "[^b][^b]:|a" ++ (10 ∷ []) ++ codes "|-"

abbrev pub table_in_a_footnote_text : List ℕ
table_in_a_footnote_text =
    codes "<p>" ++ call_tag "b" "b" "1" ++ codes "</p>" ++ (10 ∷ []) ++ section_head ++ (10 ∷ [])
    ++ codes "<ol>" ++ (10 ∷ []) ++ codes "<li id=\"user-content-fn-b\">" ++ (10 ∷ [])
    ++ codes "<table>" ++ (10 ∷ [])
    ++ codes "<thead>" ++ (10 ∷ []) ++ codes "<tr>" ++ (10 ∷ []) ++ codes "<th>a</th>" ++ (10 ∷ [])
    ++ codes "</tr>"
    ++ (10 ∷ []) ++ codes "</thead>" ++ (10 ∷ []) ++ codes "</table>" ++ (10 ∷ [])
    ++ way_back "b" ++ (10 ∷ [])
    ++ codes "</li>" ++ (10 ∷ []) ++ codes "</ol>" ++ (10 ∷ []) ++ codes "</section>" ++ (10 ∷ [])
