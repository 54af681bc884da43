-- Worked trees of line endings: which are slurped, dropped or printed.
use Rattle.std.specs.Prelude.{ℕ, List, [], ◌∷◌, ◌++◌, codes}
use Rattle.md_base.specs.declared.event.Name.TheVariants as name_variants
use name_variants.{BlankLineEnding, CodeText, Data, Definition, DefinitionDestinationString}
use name_variants.{DefinitionLabelString, DefinitionTitleString, Frontmatter, GfmFootnoteCall}
use name_variants.{GfmFootnoteDefinition, GfmFootnoteDefinitionLabelString}
use name_variants.{GfmFootnoteDefinitionPrefix, Label, LabelText, LineEnding, Link, ListItem}
use name_variants.{ListItemMarker, ListItemPrefix, ListUnordered, Other, Paragraph, SpaceOrTab}
use name_variants.{ThematicBreak}
use Rattle.md_base.specs.Tree.{Forest, Empty, Node}
use Rattle.md_text.specs.declared.line_ending.LineEnding.TheVariants.{CarriageReturn}
use Rattle.md_text.specs.Defaults.{default_options}
use Rattle.md_text.specs.declared.options.CompileOptions.{CompileOptions}
use Rattle.md_meaning.specs.Trees.{at, call_tag, section_head, way_back}

-- two endings after a definition: the tree, its bytes and its text
abbrev pub two_endings_after_a_definition : Forest
two_endings_after_a_definition =
    Node ListUnordered (at 0) (at 12) (Node ListItem (at 0) (at 12)
    (Node ListItemPrefix (at 0) (at 2) (Node ListItemMarker (at 0) (at 1) (Empty) (Empty))
    (Node Paragraph (at 2) (at 3) (Node Data (at 2) (at 3) (Empty) (Empty))
    (Node Definition (at 3) (at 9) (Node DefinitionLabelString (at 4) (at 5) (Empty)
    (Node DefinitionDestinationString (at 8) (at 9) (Node Data (at 8) (at 9) (Empty) (Empty))
    (Empty))) (Node LineEnding (at 9) (at 10) (Empty) (Node LineEnding (at 10) (at 11) (Empty)
    (Node Paragraph (at 11) (at 12) (Node Data (at 11) (at 12) (Empty) (Empty)) (Empty)))))))
    (Empty)) (Empty)

abbrev pub two_endings_after_a_definition_bytes : List ℕ
two_endings_after_a_definition_bytes = codes "- a[x]: y" ++ (10 ∷ []) ++ (10 ∷ []) ++ codes "b"

abbrev pub two_endings_after_a_definition_text : List ℕ
two_endings_after_a_definition_text =
    codes "<ul>" ++ (10 ∷ []) ++ codes "<li>a" ++ (10 ∷ []) ++ codes "b</li>"
    ++ (10 ∷ []) ++ codes "</ul>"

-- two line endings after a footnote definition, of which the first is dropped: the tree, its
-- bytes and its text
abbrev pub endings_after_a_footnote_definition : Forest
endings_after_a_footnote_definition =
    Node GfmFootnoteDefinition (at 0) (at 6) (Node GfmFootnoteDefinitionPrefix (at 0) (at 5)
    (Node GfmFootnoteDefinitionLabelString (at 2) (at 3) (Empty) (Empty))
    (Node Paragraph (at 5) (at 6) (Node Data (at 5) (at 6) (Empty) (Empty)) (Empty)))
    (Node LineEnding (at 6) (at 7) (Empty) (Node LineEnding (at 7) (at 8) (Empty)
    (Node Paragraph (at 8) (at 12) (Node GfmFootnoteCall (at 8) (at 12) (Node Label (at 8) (at 12)
    (Node LabelText (at 10) (at 11) (Empty) (Empty)) (Empty)) (Empty)) (Empty))))

abbrev pub endings_after_a_footnote_definition_bytes : List ℕ
endings_after_a_footnote_definition_bytes = codes "[^b]:c" ++ (10 ∷ []) ++ (10 ∷ []) ++ codes "[^b]"

abbrev pub endings_after_a_footnote_definition_text : List ℕ
endings_after_a_footnote_definition_text =
    (10 ∷ []) ++ codes "<p>" ++ call_tag "b" "b" "1" ++ codes "</p>" ++ (10 ∷ []) ++ section_head
    ++ (10 ∷ []) ++ codes "<ol>" ++ (10 ∷ []) ++ codes "<li id=\"user-content-fn-b\">"
    ++ (10 ∷ []) ++ codes "<p>c "
    ++ way_back "b" ++ codes "</p>" ++ (10 ∷ []) ++ codes "</li>" ++ (10 ∷ []) ++ codes "</ol>"
    ++ (10 ∷ []) ++ codes "</section>" ++ (10 ∷ [])

-- a thematic break after frontmatter, which slurps the line ending between them: the tree, its
-- bytes and its text
abbrev pub break_after_frontmatter : Forest
break_after_frontmatter =
    Node Frontmatter (at 0) (at 7) (Node LineEnding (at 3) (at 4) (Empty) (Empty))
    (Node LineEnding (at 7) (at 8) (Empty) (Node ThematicBreak (at 8) (at 11) (Empty) (Empty)))

abbrev pub break_after_frontmatter_bytes : List ℕ
break_after_frontmatter_bytes = codes "---" ++ (10 ∷ []) ++ codes "---" ++ (10 ∷ []) ++ codes "***"

abbrev pub break_after_frontmatter_text : List ℕ
break_after_frontmatter_text = codes "<hr />"

-- blank line at the end: the tree, its bytes and its text
abbrev pub blank_line_at_the_end : Forest
blank_line_at_the_end =
    Node Paragraph (at 0) (at 1) (Node Data (at 0) (at 1) (Empty) (Empty))
    (Node BlankLineEnding (at 1) (at 2) (Empty) (Empty))

abbrev pub blank_line_at_the_end_bytes : List ℕ
blank_line_at_the_end_bytes = codes "a" ++ (10 ∷ [])

abbrev pub blank_line_at_the_end_text : List ℕ
blank_line_at_the_end_text = codes "<p>a</p>" ++ (10 ∷ [])

-- default line ending: the options, the tree, its bytes and its text
abbrev pub default_line_ending_options : CompileOptions
default_line_ending_options = record default_options { default_line_ending = CarriageReturn }

abbrev pub default_line_ending : Forest
default_line_ending =
    Node ListUnordered (at 0) (at 3) (Node ListItem (at 0) (at 3)
    (Node ListItemPrefix (at 0) (at 2) (Node ListItemMarker (at 0) (at 1) (Empty)
    (Node SpaceOrTab (at 1) (at 2) (Empty) (Empty))) (Node Paragraph (at 2) (at 3)
    (Node Data (at 2) (at 3) (Empty) (Empty)) (Empty))) (Empty)) (Empty)

abbrev pub default_line_ending_bytes : List ℕ
default_line_ending_bytes = codes "- a"

abbrev pub default_line_ending_text : List ℕ
default_line_ending_text =
    codes "<ul>" ++ (13 ∷ []) ++ codes "<li>a</li>" ++ (13 ∷ []) ++ codes "</ul>"

-- a list before a definition with the only line ending, which is the one printed: the tree, its
-- bytes and its text
abbrev pub line_ending_in_a_definition : Forest
line_ending_in_a_definition =
    Node ListUnordered (at 0) (at 3) (Node ListItem (at 0) (at 3)
    (Node ListItemPrefix (at 0) (at 2) (Node ListItemMarker (at 0) (at 1) (Empty)
    (Node SpaceOrTab (at 1) (at 2) (Empty) (Empty))) (Node Paragraph (at 2) (at 3)
    (Node Data (at 2) (at 3) (Empty) (Empty)) (Empty))) (Empty))
    (Node Definition (at 3) (at 10) (Node DefinitionLabelString (at 4) (at 5)
    (Node Data (at 4) (at 5) (Empty) (Empty)) (Node LineEnding (at 7) (at 9) (Empty)
    (Node DefinitionDestinationString (at 9) (at 10) (Node Data (at 9) (at 10) (Empty) (Empty))
    (Empty)))) (Empty))

abbrev pub line_ending_in_a_definition_bytes : List ℕ
line_ending_in_a_definition_bytes = codes "- a[b]:" ++ (13 ∷ []) ++ (10 ∷ []) ++ codes "c"

abbrev pub line_ending_in_a_definition_text : List ℕ
line_ending_in_a_definition_text =
    codes "<ul>" ++ (13 ∷ []) ++ (10 ∷ []) ++ codes "<li>a</li>" ++ (13 ∷ [])
    ++ (10 ∷ []) ++ codes "</ul>"

-- a line ending after frontmatter and code with a line ending, which doesn't clear the mark to
-- slurp one: the tree, its bytes and its text
abbrev pub ending_after_code_with_an_ending : Forest
ending_after_code_with_an_ending =
    Node Frontmatter (at 0) (at 0) (Empty) (Node CodeText (at 0) (at 3)
    (Node LineEnding (at 1) (at 2) (Empty) (Empty)) (Node LineEnding (at 3) (at 4) (Empty) (Empty)))

abbrev pub ending_after_code_with_an_ending_bytes : List ℕ
ending_after_code_with_an_ending_bytes = codes "`" ++ (10 ∷ []) ++ codes "`" ++ (10 ∷ [])

abbrev pub ending_after_code_with_an_ending_text : List ℕ
ending_after_code_with_an_ending_text = codes "<code> </code>"

-- a line ending after frontmatter and a definition with a line ending, which doesn't clear the mark
-- to slurp one: the tree, its bytes and its text
abbrev pub ending_after_a_definition_with_an_ending : Forest
ending_after_a_definition_with_an_ending =
    Node Frontmatter (at 0) (at 0) (Empty) (Node Definition (at 0) (at 6)
    (Node DefinitionLabelString (at 1) (at 2) (Node Data (at 1) (at 2) (Empty) (Empty))
    (Node LineEnding (at 4) (at 5) (Empty) (Node DefinitionDestinationString (at 5) (at 6)
    (Node Data (at 5) (at 6) (Empty) (Empty)) (Empty))))
    (Node (Other 1) (at 6) (at 7) (Node LineEnding (at 6) (at 7) (Empty) (Empty)) (Empty)))

abbrev pub ending_after_a_definition_with_an_ending_bytes : List ℕ
ending_after_a_definition_with_an_ending_bytes = codes "[a]:" ++ (10 ∷ []) ++ codes "b" ++ (10 ∷ [])

abbrev pub ending_after_a_definition_with_an_ending_text : List ℕ
ending_after_a_definition_with_an_ending_text = []

-- a title with a line ending after frontmatter, which isn't slurped in a definition: the tree, its
-- bytes and its text
abbrev pub title_on_two_lines : Forest
title_on_two_lines =
    Node Frontmatter (at 0) (at 0) (Empty) (Node Definition (at 0) (at 12)
    (Node DefinitionLabelString (at 1) (at 2) (Node Data (at 1) (at 2) (Empty) (Empty))
    (Node DefinitionDestinationString (at 5) (at 6) (Node Data (at 5) (at 6) (Empty) (Empty))
    (Node DefinitionTitleString (at 8) (at 11) (Node Data (at 8) (at 9) (Empty)
    (Node LineEnding (at 9) (at 10) (Empty) (Node Data (at 10) (at 11) (Empty) (Empty)))) (Empty))))
    (Node Paragraph (at 12) (at 15) (Node Link (at 12) (at 15) (Node Label (at 12) (at 15)
    (Node LabelText (at 13) (at 14) (Node Data (at 13) (at 14) (Empty) (Empty)) (Empty))
    (Empty)) (Empty)) (Empty)))

abbrev pub title_on_two_lines_bytes : List ℕ
title_on_two_lines_bytes = codes "[a]: b \"c" ++ (10 ∷ []) ++ codes "d\"[a]"

abbrev pub title_on_two_lines_text : List ℕ
title_on_two_lines_text = codes "<p><a href=\"b\" title=\"c" ++ (10 ∷ []) ++ codes "d\">a</a></p>"

-- a line ending after a transparent node that holds a definition: the tree, its bytes and its text
abbrev pub definition_in_another_name : Forest
definition_in_another_name =
    Node (Other 1) (at 0) (at 6) (Node Definition (at 0) (at 6)
    (Node DefinitionLabelString (at 1) (at 2) (Node Data (at 1) (at 2) (Empty) (Empty))
    (Node DefinitionDestinationString (at 5) (at 6) (Node Data (at 5) (at 6) (Empty) (Empty))
    (Empty))) (Empty)) (Node LineEnding (at 6) (at 7) (Empty) (Empty))

abbrev pub definition_in_another_name_bytes : List ℕ
definition_in_another_name_bytes = codes "[a]: b" ++ (10 ∷ [])

abbrev pub definition_in_another_name_text : List ℕ
definition_in_another_name_text = (10 ∷ [])

-- a blank line at the start, whose line ending is the one printed: the tree, its bytes and its text
abbrev pub blank_line_at_the_start : Forest
blank_line_at_the_start =
    Node BlankLineEnding (at 0) (at 2) (Empty)
    (Node ListUnordered (at 2) (at 9) (Node ListItem (at 2) (at 5)
    (Node ListItemPrefix (at 2) (at 4) (Node ListItemMarker (at 2) (at 3) (Empty)
    (Node SpaceOrTab (at 3) (at 4) (Empty) (Empty))) (Node Paragraph (at 4) (at 5)
    (Node Data (at 4) (at 5) (Empty) (Empty)) (Empty))) (Node LineEnding (at 5) (at 6) (Empty)
    (Node ListItem (at 6) (at 9) (Node ListItemPrefix (at 6) (at 8) (Node ListItemMarker (at 6)
    (at 7) (Empty) (Node SpaceOrTab (at 7) (at 8) (Empty) (Empty))) (Node Paragraph (at 8) (at 9)
    (Node Data (at 8) (at 9) (Empty) (Empty)) (Empty))) (Empty)))) (Empty))

abbrev pub blank_line_at_the_start_bytes : List ℕ
blank_line_at_the_start_bytes = (13 ∷ []) ++ (10 ∷ []) ++ codes "- a" ++ (10 ∷ []) ++ codes "- b"

abbrev pub blank_line_at_the_start_text : List ℕ
blank_line_at_the_start_text =
    codes "<ul>" ++ (13 ∷ []) ++ (10 ∷ []) ++ codes "<li>a</li>" ++ (10 ∷ [])
    ++ codes "<li>b</li>" ++ (13 ∷ []) ++ (10 ∷ []) ++ codes "</ul>"
