-- Worked trees of the identifiers and ids of footnotes.
use Rattle.std.specs.Prelude.{ℕ, List, [], ◌∷◌, ◌++◌, codes}
use Rattle.md_base.specs.declared.event.Name.TheVariants as name_variants
use name_variants.{Data, GfmFootnoteCall, GfmFootnoteDefinition, GfmFootnoteDefinitionLabelString}
use name_variants.{GfmFootnoteDefinitionPrefix, Label, LabelText, Paragraph}
use Rattle.md_base.specs.Tree.{Forest, Empty, Node}
use Rattle.md_meaning.specs.Trees.{at, call_tag, section_head, way_back, numbered_way_back}
pub use Rattle.md_meaning.specs.Trees.Options.{ids_by_number}

-- an identifier with a capital letter and white space: the tree, its bytes and its text
abbrev pub folded_identifier : Forest
folded_identifier =
    Node Paragraph (at 0) (at 7) (Node GfmFootnoteCall (at 0) (at 7)
    (Node Label (at 0) (at 7) (Node LabelText (at 2) (at 6) (Empty) (Empty)) (Empty)) (Empty))
    (Node GfmFootnoteDefinition (at 7) (at 15) (Node GfmFootnoteDefinitionPrefix (at 7) (at 14)
    (Node GfmFootnoteDefinitionLabelString (at 9) (at 12) (Empty) (Empty))
    (Node Paragraph (at 14) (at 15) (Node Data (at 14) (at 15) (Empty) (Empty)) (Empty))) (Empty))

abbrev pub folded_identifier_bytes : List ℕ
folded_identifier_bytes = codes "[^B  c][^b" ++ (9 ∷ []) ++ codes "c]:x"

abbrev pub folded_identifier_text : List ℕ
folded_identifier_text =
    codes "<p>" ++ call_tag "b%20c" "b%20c" "1" ++ codes "</p>" ++ (10 ∷ []) ++ section_head
    ++ (10 ∷ []) ++ codes "<ol>" ++ (10 ∷ []) ++ codes "<li id=\"user-content-fn-b%20c\">"
    ++ (10 ∷ []) ++ codes "<p>x " ++ way_back "b%20c" ++ codes "</p>" ++ (10 ∷ []) ++ codes "</li>"
    ++ (10 ∷ []) ++ codes "</ol>" ++ (10 ∷ []) ++ codes "</section>" ++ (10 ∷ [])

-- empty identifier: the tree, its bytes and its text
abbrev pub empty_identifier : Forest
empty_identifier =
    Node Paragraph (at 0) (at 3) (Node GfmFootnoteCall (at 0) (at 3)
    (Node Label (at 0) (at 3) (Node LabelText (at 2) (at 2) (Empty) (Empty)) (Empty)) (Empty))
    (Node GfmFootnoteDefinition (at 3) (at 8) (Node GfmFootnoteDefinitionPrefix (at 3) (at 7)
    (Node GfmFootnoteDefinitionLabelString (at 5) (at 5) (Empty) (Empty))
    (Node Paragraph (at 7) (at 8) (Node Data (at 7) (at 8) (Empty) (Empty)) (Empty))) (Empty))

abbrev pub empty_identifier_bytes : List ℕ
empty_identifier_bytes = codes "[^][^]:x"

abbrev pub empty_identifier_text : List ℕ
empty_identifier_text =
    codes "<p>" ++ call_tag "" "" "1" ++ codes "</p>" ++ (10 ∷ []) ++ section_head ++ (10 ∷ [])
    ++ codes "<ol>" ++ (10 ∷ []) ++ codes "<li id=\"user-content-fn-\">" ++ (10 ∷ [])
    ++ codes "<p>x " ++ way_back ""
    ++ codes "</p>" ++ (10 ∷ []) ++ codes "</li>" ++ (10 ∷ []) ++ codes "</ol>" ++ (10 ∷ [])
    ++ codes "</section>" ++ (10 ∷ [])

-- a footnote with its ids by number: its text
abbrev pub footnote_by_number_text : List ℕ
footnote_by_number_text =
    codes "<p>a" ++ call_tag "1" "1-1" "1" ++ codes "</p>" ++ (10 ∷ []) ++ section_head
    ++ (10 ∷ []) ++ codes "<ol>" ++ (10 ∷ []) ++ codes "<li id=\"user-content-fn-1\">" ++ (10 ∷ [])
    ++ codes "<p>c " ++ way_back "1-1" ++ codes "</p>" ++ (10 ∷ []) ++ codes "</li>" ++ (10 ∷ [])
    ++ codes "</ol>" ++ (10 ∷ []) ++ codes "</section>" ++ (10 ∷ [])

-- a second call whose id equals that of another footnote's first call: the tree, its bytes, its
-- text, and its text with ids by number, where all ids differ
abbrev pub identifiers_that_meet : Forest
identifiers_that_meet =
    Node Paragraph (at 0) (at 14) (Node GfmFootnoteCall (at 0) (at 4)
    (Node Label (at 0) (at 4) (Node LabelText (at 2) (at 3) (Empty) (Empty)) (Empty))
    (Node GfmFootnoteCall (at 4) (at 8) (Node Label (at 4) (at 8)
    (Node LabelText (at 6) (at 7) (Empty) (Empty)) (Empty)) (Node GfmFootnoteCall (at 8) (at 14)
    (Node Label (at 8) (at 14) (Node LabelText (at 10) (at 13) (Empty) (Empty)) (Empty)) (Empty))))
    (Node GfmFootnoteDefinition (at 14) (at 20) (Node GfmFootnoteDefinitionPrefix (at 14) (at 19)
    (Node GfmFootnoteDefinitionLabelString (at 16) (at 17) (Empty)
    (Empty)) (Node Paragraph (at 19) (at 20) (Node Data (at 19) (at 20) (Empty) (Empty)) (Empty)))
    (Node GfmFootnoteDefinition (at 20) (at 28) (Node GfmFootnoteDefinitionPrefix (at 20) (at 27)
    (Node GfmFootnoteDefinitionLabelString (at 22) (at 25) (Empty) (Empty))
    (Node Paragraph (at 27) (at 28) (Node Data (at 27) (at 28) (Empty) (Empty)) (Empty))) (Empty)))

abbrev pub identifiers_that_meet_bytes : List ℕ
identifiers_that_meet_bytes = codes "[^a][^a][^a-2][^a]:x[^a-2]:y"

abbrev pub identifiers_that_meet_text : List ℕ
identifiers_that_meet_text =
    codes "<p>" ++ call_tag "a" "a" "1" ++ call_tag "a" "a-2" "1" ++ call_tag "a-2" "a-2" "2"
    ++ codes "</p>" ++ (10 ∷ []) ++ section_head ++ (10 ∷ []) ++ codes "<ol>" ++ (10 ∷ [])
    ++ codes "<li id=\"user-content-fn-a\">"
    ++ (10 ∷ []) ++ codes "<p>x " ++ way_back "a" ++ codes " " ++ numbered_way_back "a-2" "2"
    ++ codes "</p>" ++ (10 ∷ []) ++ codes "</li>" ++ (10 ∷ [])
    ++ codes "<li id=\"user-content-fn-a-2\">" ++ (10 ∷ [])
    ++ codes "<p>y " ++ way_back "a-2" ++ codes "</p>" ++ (10 ∷ []) ++ codes "</li>" ++ (10 ∷ [])
    ++ codes "</ol>" ++ (10 ∷ []) ++ codes "</section>" ++ (10 ∷ [])

abbrev pub identifiers_that_meet_by_number_text : List ℕ
identifiers_that_meet_by_number_text =
    codes "<p>" ++ call_tag "1" "1-1" "1" ++ call_tag "1" "1-2" "1" ++ call_tag "2" "2-1" "2"
    ++ codes "</p>" ++ (10 ∷ []) ++ section_head ++ (10 ∷ []) ++ codes "<ol>" ++ (10 ∷ [])
    ++ codes "<li id=\"user-content-fn-1\">"
    ++ (10 ∷ []) ++ codes "<p>x " ++ way_back "1-1" ++ codes " "
    ++ numbered_way_back "1-2" "2" ++ codes "</p>"
    ++ (10 ∷ []) ++ codes "</li>" ++ (10 ∷ []) ++ codes "<li id=\"user-content-fn-2\">" ++ (10 ∷ [])
    ++ codes "<p>y " ++ way_back "2-1" ++ codes "</p>" ++ (10 ∷ []) ++ codes "</li>" ++ (10 ∷ [])
    ++ codes "</ol>" ++ (10 ∷ []) ++ codes "</section>" ++ (10 ∷ [])
