-- Worked trees of footnote calls and the section of footnotes.
use Rattle.std.specs.Prelude.{ℕ, List, [], ◌∷◌, ◌++◌, codes}
use Rattle.md_base.specs.declared.event.Name.TheVariants as name_variants
use name_variants.{BlankLineEnding, Data, GfmFootnoteCall, GfmFootnoteDefinition}
use name_variants.{GfmFootnoteDefinitionLabelString, GfmFootnoteDefinitionPrefix, Image, Label}
use name_variants.{LabelText, LineEnding, Paragraph, Resource, ResourceDestinationString}
use Rattle.md_base.specs.Tree.{Forest, Empty, Node}
use Rattle.md_meaning.specs.Trees.{at, call_tag, section_head, way_back, numbered_way_back}

-- footnote: the tree, its bytes and its text
abbrev pub footnote : Forest
footnote =
    Node Paragraph (at 0) (at 5) (Node Data (at 0) (at 1) (Empty)
    (Node GfmFootnoteCall (at 1) (at 5) (Node Label (at 1) (at 5)
    (Node LabelText (at 3) (at 4) (Node Data (at 3) (at 4) (Empty) (Empty)) (Empty)) (Empty))
    (Empty))) (Node LineEnding (at 5) (at 6) (Empty) (Node BlankLineEnding (at 6) (at 7) (Empty)
    (Node GfmFootnoteDefinition (at 7) (at 14) (Node GfmFootnoteDefinitionPrefix (at 7) (at 13)
    (Node GfmFootnoteDefinitionLabelString (at 9) (at 10)
    (Node Data (at 9) (at 10) (Empty) (Empty)) (Empty))
    (Node Paragraph (at 13) (at 14) (Node Data (at 13) (at 14) (Empty) (Empty)) (Empty))) (Empty))))

abbrev pub footnote_bytes : List ℕ
footnote_bytes = codes "a[^b]" ++ (10 ∷ []) ++ (10 ∷ []) ++ codes "[^b]: c"

abbrev pub footnote_text : List ℕ
footnote_text =
    codes "<p>a" ++ call_tag "b" "b" "1" ++ codes "</p>" ++ (10 ∷ []) ++ section_head
    ++ (10 ∷ []) ++ codes "<ol>" ++ (10 ∷ []) ++ codes "<li id=\"user-content-fn-b\">" ++ (10 ∷ [])
    ++ codes "<p>c " ++ way_back "b"
    ++ codes "</p>" ++ (10 ∷ []) ++ codes "</li>" ++ (10 ∷ []) ++ codes "</ol>" ++ (10 ∷ [])
    ++ codes "</section>" ++ (10 ∷ [])

-- two references to one footnote: the tree, its bytes and its text
abbrev pub two_references_to_one_footnote : Forest
two_references_to_one_footnote =
    Node Paragraph (at 0) (at 8) (Node GfmFootnoteCall (at 0) (at 4)
    (Node Label (at 0) (at 4) (Node LabelText (at 2) (at 3) (Empty) (Empty)) (Empty))
    (Node GfmFootnoteCall (at 4) (at 8)
    (Node Label (at 4) (at 8) (Node LabelText (at 6) (at 7) (Empty) (Empty))
    (Empty)) (Empty))) (Node GfmFootnoteDefinition (at 8) (at 14) (Node GfmFootnoteDefinitionPrefix
    (at 8) (at 13) (Node GfmFootnoteDefinitionLabelString (at 10) (at 11) (Empty) (Empty))
    (Node Paragraph (at 13) (at 14) (Node Data (at 13) (at 14) (Empty) (Empty)) (Empty))) (Empty))

abbrev pub two_references_to_one_footnote_bytes : List ℕ
two_references_to_one_footnote_bytes = codes "[^b][^b][^b]:c"

abbrev pub two_references_to_one_footnote_text : List ℕ
two_references_to_one_footnote_text =
    codes "<p>" ++ call_tag "b" "b" "1" ++ call_tag "b" "b-2" "1" ++ codes "</p>"
    ++ (10 ∷ []) ++ section_head
    ++ (10 ∷ []) ++ codes "<ol>" ++ (10 ∷ []) ++ codes "<li id=\"user-content-fn-b\">" ++ (10 ∷ [])
    ++ codes "<p>c "
    ++ way_back "b" ++ codes " " ++ numbered_way_back "b-2" "2" ++ codes "</p>" ++ (10 ∷ [])
    ++ codes "</li>" ++ (10 ∷ []) ++ codes "</ol>" ++ (10 ∷ []) ++ codes "</section>" ++ (10 ∷ [])

-- nested footnote definition: the tree, its bytes and its text
abbrev pub nested_footnote_definition : Forest
nested_footnote_definition =
    Node Paragraph (at 0) (at 4) (Node GfmFootnoteCall (at 0) (at 4)
    (Node Label (at 0) (at 4) (Node LabelText (at 2) (at 3) (Empty) (Empty)) (Empty)) (Empty))
    (Node GfmFootnoteDefinition (at 4) (at 16) (Node GfmFootnoteDefinitionPrefix (at 4) (at 9)
    (Node GfmFootnoteDefinitionLabelString (at 6) (at 7) (Empty) (Empty))
    (Node Paragraph (at 9) (at 10) (Node Data (at 9) (at 10) (Empty) (Empty))
    (Node GfmFootnoteDefinition (at 10) (at 16) (Node GfmFootnoteDefinitionPrefix (at 10) (at 15)
    (Node GfmFootnoteDefinitionLabelString (at 12) (at 13) (Empty) (Empty))
    (Node Paragraph (at 15) (at 16) (Node Data (at 15) (at 16) (Empty) (Empty)) (Empty))) (Empty))))
    (Empty))

abbrev pub nested_footnote_definition_bytes : List ℕ
nested_footnote_definition_bytes = codes "[^a][^a]:x[^a]:y"

abbrev pub nested_footnote_definition_text : List ℕ
nested_footnote_definition_text =
    codes "<p>" ++ call_tag "a" "a" "1" ++ codes "</p>" ++ (10 ∷ []) ++ section_head ++ (10 ∷ [])
    ++ codes "<ol>" ++ (10 ∷ []) ++ codes "<li id=\"user-content-fn-a\">" ++ (10 ∷ [])
    ++ codes "<p>y " ++ way_back "a"
    ++ codes "</p>" ++ (10 ∷ []) ++ codes "</li>" ++ (10 ∷ []) ++ codes "</ol>" ++ (10 ∷ [])
    ++ codes "</section>" ++ (10 ∷ [])

-- footnotes in the order of their calls: the tree, its bytes and its text
abbrev pub footnotes_in_the_order_of_their_calls : Forest
footnotes_in_the_order_of_their_calls =
    Node Paragraph (at 0) (at 8) (Node GfmFootnoteCall (at 0) (at 4)
    (Node Label (at 0) (at 4) (Node LabelText (at 2) (at 3) (Empty) (Empty)) (Empty))
    (Node GfmFootnoteCall (at 4) (at 8)
    (Node Label (at 4) (at 8) (Node LabelText (at 6) (at 7) (Empty) (Empty))
    (Empty)) (Empty))) (Node GfmFootnoteDefinition (at 8) (at 14) (Node GfmFootnoteDefinitionPrefix
    (at 8) (at 13) (Node GfmFootnoteDefinitionLabelString (at 10) (at 11) (Empty)
    (Empty)) (Node Paragraph (at 13) (at 14) (Node Data (at 13) (at 14) (Empty) (Empty)) (Empty)))
    (Node GfmFootnoteDefinition (at 14) (at 20) (Node GfmFootnoteDefinitionPrefix (at 14) (at 19)
    (Node GfmFootnoteDefinitionLabelString (at 16) (at 17) (Empty) (Empty))
    (Node Paragraph (at 19) (at 20) (Node Data (at 19) (at 20) (Empty) (Empty)) (Empty))) (Empty)))

abbrev pub footnotes_in_the_order_of_their_calls_bytes : List ℕ
footnotes_in_the_order_of_their_calls_bytes = codes "[^b][^a][^a]:x[^b]:y"

abbrev pub footnotes_in_the_order_of_their_calls_text : List ℕ
footnotes_in_the_order_of_their_calls_text =
    codes "<p>" ++ call_tag "b" "b" "1" ++ call_tag "a" "a" "2" ++ codes "</p>"
    ++ (10 ∷ []) ++ section_head
    ++ (10 ∷ []) ++ codes "<ol>" ++ (10 ∷ []) ++ codes "<li id=\"user-content-fn-b\">" ++ (10 ∷ [])
    ++ codes "<p>y "
    ++ way_back "b" ++ codes "</p>" ++ (10 ∷ []) ++ codes "</li>" ++ (10 ∷ [])
    ++ codes "<li id=\"user-content-fn-a\">" ++ (10 ∷ []) ++ codes "<p>x "
    ++ way_back "a" ++ codes "</p>"
    ++ (10 ∷ []) ++ codes "</li>" ++ (10 ∷ []) ++ codes "</ol>" ++ (10 ∷ [])
    ++ codes "</section>" ++ (10 ∷ [])

-- a call in the label of a call, which has the lower number and prints nothing: the tree, its
-- bytes and its text
abbrev pub call_in_a_call : Forest
call_in_a_call =
    Node Paragraph (at 0) (at 8) (Node GfmFootnoteCall (at 0) (at 8)
    (Node Label (at 0) (at 8) (Node GfmFootnoteCall (at 2) (at 6)
    (Node Label (at 2) (at 6) (Node LabelText (at 4) (at 5) (Empty) (Empty)) (Empty))
    (Node LabelText (at 6) (at 7) (Empty) (Empty))) (Empty)) (Empty))
    (Node GfmFootnoteDefinition (at 8) (at 14) (Node GfmFootnoteDefinitionPrefix (at 8) (at 13)
    (Node GfmFootnoteDefinitionLabelString (at 10) (at 11) (Empty) (Empty))
    (Node Paragraph (at 13) (at 14) (Node Data (at 13) (at 14) (Empty) (Empty)) (Empty)))
    (Node GfmFootnoteDefinition (at 14) (at 20) (Node GfmFootnoteDefinitionPrefix (at 14) (at 19)
    (Node GfmFootnoteDefinitionLabelString (at 16) (at 17) (Empty) (Empty))
    (Node Paragraph (at 19) (at 20) (Node Data (at 19) (at 20) (Empty) (Empty)) (Empty))) (Empty)))

abbrev pub call_in_a_call_bytes : List ℕ
call_in_a_call_bytes = codes "[^[^b]a][^a]:x[^b]:y"

abbrev pub call_in_a_call_text : List ℕ
call_in_a_call_text =
    codes "<p>" ++ call_tag "a" "a" "2" ++ codes "</p>" ++ (10 ∷ []) ++ section_head ++ (10 ∷ [])
    ++ codes "<ol>" ++ (10 ∷ []) ++ codes "<li id=\"user-content-fn-b\">" ++ (10 ∷ [])
    ++ codes "<p>y " ++ way_back "b"
    ++ codes "</p>" ++ (10 ∷ []) ++ codes "</li>" ++ (10 ∷ [])
    ++ codes "<li id=\"user-content-fn-a\">"
    ++ (10 ∷ [])
    ++ codes "<p>x " ++ way_back "a" ++ codes "</p>" ++ (10 ∷ []) ++ codes "</li>" ++ (10 ∷ [])
    ++ codes "</ol>" ++ (10 ∷ []) ++ codes "</section>" ++ (10 ∷ [])

-- a call in the label of an image, which is counted and prints nothing: the tree, its
-- bytes and its text
abbrev pub call_in_an_image : Forest
call_in_an_image =
    Node Paragraph (at 0) (at 15) (Node Image (at 0) (at 11)
    (Node Label (at 0) (at 8) (Node LabelText (at 2) (at 7)
    (Node Data (at 2) (at 3) (Empty) (Node GfmFootnoteCall (at 3) (at 7)
    (Node Label (at 3) (at 7) (Node LabelText (at 5) (at 6) (Empty) (Empty)) (Empty)) (Empty)))
    (Empty)) (Node Resource (at 8) (at 11) (Node ResourceDestinationString (at 9) (at 10)
    (Node Data (at 9) (at 10) (Empty) (Empty)) (Empty)) (Empty)))
    (Node GfmFootnoteCall (at 11) (at 15) (Node Label (at 11) (at 15)
    (Node LabelText (at 13) (at 14) (Empty) (Empty)) (Empty)) (Empty)))
    (Node GfmFootnoteDefinition (at 15) (at 21) (Node GfmFootnoteDefinitionPrefix (at 15) (at 20)
    (Node GfmFootnoteDefinitionLabelString (at 17) (at 18) (Empty) (Empty))
    (Node Paragraph (at 20) (at 21) (Node Data (at 20) (at 21) (Empty) (Empty)) (Empty)))
    (Node GfmFootnoteDefinition (at 21) (at 27) (Node GfmFootnoteDefinitionPrefix (at 21) (at 26)
    (Node GfmFootnoteDefinitionLabelString (at 23) (at 24) (Empty) (Empty))
    (Node Paragraph (at 26) (at 27) (Node Data (at 26) (at 27) (Empty) (Empty)) (Empty))) (Empty)))

abbrev pub call_in_an_image_bytes : List ℕ
call_in_an_image_bytes = codes "![i[^b]](u)[^c][^b]:x[^c]:y"

abbrev pub call_in_an_image_text : List ℕ
call_in_an_image_text =
    codes "<p><img src=\"u\" alt=\"i\" />" ++ call_tag "c" "c" "2" ++ codes "</p>"
    ++ (10 ∷ []) ++ section_head
    ++ (10 ∷ []) ++ codes "<ol>" ++ (10 ∷ []) ++ codes "<li id=\"user-content-fn-b\">" ++ (10 ∷ [])
    ++ codes "<p>x "
    ++ way_back "b" ++ codes "</p>" ++ (10 ∷ []) ++ codes "</li>" ++ (10 ∷ [])
    ++ codes "<li id=\"user-content-fn-c\">" ++ (10 ∷ []) ++ codes "<p>y "
    ++ way_back "c" ++ codes "</p>"
    ++ (10 ∷ []) ++ codes "</li>" ++ (10 ∷ []) ++ codes "</ol>" ++ (10 ∷ [])
    ++ codes "</section>" ++ (10 ∷ [])

-- call in its own footnote: the tree, its bytes and its text
abbrev pub call_in_its_own_footnote : Forest
call_in_its_own_footnote =
    Node Paragraph (at 0) (at 4) (Node GfmFootnoteCall (at 0) (at 4)
    (Node Label (at 0) (at 4) (Node LabelText (at 2) (at 3) (Empty) (Empty)) (Empty)) (Empty))
    (Node GfmFootnoteDefinition (at 4) (at 14) (Node GfmFootnoteDefinitionPrefix (at 4) (at 9)
    (Node GfmFootnoteDefinitionLabelString (at 6) (at 7) (Empty) (Empty))
    (Node Paragraph (at 9) (at 14) (Node Data (at 9) (at 10) (Empty)
    (Node GfmFootnoteCall (at 10) (at 14) (Node Label (at 10) (at 14)
    (Node LabelText (at 12) (at 13) (Empty) (Empty)) (Empty)) (Empty))) (Empty))) (Empty))

abbrev pub call_in_its_own_footnote_bytes : List ℕ
call_in_its_own_footnote_bytes = codes "[^a][^a]:x[^a]"

abbrev pub call_in_its_own_footnote_text : List ℕ
call_in_its_own_footnote_text =
    codes "<p>" ++ call_tag "a" "a" "1" ++ codes "</p>" ++ (10 ∷ []) ++ section_head ++ (10 ∷ [])
    ++ codes "<ol>" ++ (10 ∷ []) ++ codes "<li id=\"user-content-fn-a\">" ++ (10 ∷ [])
    ++ codes "<p>x" ++ call_tag "a" "a-2" "1" ++ codes " " ++ way_back "a" ++ codes " "
    ++ numbered_way_back "a-2" "2" ++ codes "</p>" ++ (10 ∷ [])
    ++ codes "</li>" ++ (10 ∷ []) ++ codes "</ol>" ++ (10 ∷ []) ++ codes "</section>" ++ (10 ∷ [])

-- footnote without a call: the tree, its bytes and its text
abbrev pub footnote_without_a_call : Forest
footnote_without_a_call =
    Node GfmFootnoteDefinition (at 0) (at 6) (Node GfmFootnoteDefinitionPrefix (at 0) (at 5)
    (Node GfmFootnoteDefinitionLabelString (at 2) (at 3) (Empty) (Empty))
    (Node Paragraph (at 5) (at 6) (Node Data (at 5) (at 6) (Empty) (Empty)) (Empty))) (Empty)

abbrev pub footnote_without_a_call_bytes : List ℕ
footnote_without_a_call_bytes = codes "[^a]:x"

abbrev pub footnote_without_a_call_text : List ℕ
footnote_without_a_call_text = []
