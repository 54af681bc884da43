-- Worked trees of the content of footnotes, and where their backreferences are.
use Rattle.std.specs.Prelude.{ℕ, true, List, [], ◌∷◌, ◌++◌, codes}
use Rattle.md_base.specs.declared.event.Name.TheVariants as name_variants
use name_variants.{BlockQuote, BlockQuotePrefix, Data, GfmFootnoteCall, GfmFootnoteDefinition}
use name_variants.{GfmFootnoteDefinitionLabelString, GfmFootnoteDefinitionPrefix, HtmlFlow}
use name_variants.{HtmlFlowData, Label, LabelText, LineEnding, ListItem, ListItemMarker}
use name_variants.{ListItemPrefix, ListUnordered, Paragraph, SpaceOrTab, ThematicBreak}
use Rattle.md_base.specs.Tree.{Forest, Empty, Node}
use Rattle.md_text.specs.Defaults.{default_options}
use Rattle.md_text.specs.declared.options.CompileOptions.{CompileOptions}
use Rattle.md_meaning.specs.Trees.{at, call_tag, section_head, way_back}

-- footnote without a paragraph: the tree, its bytes and its text
abbrev pub footnote_without_a_paragraph : Forest
footnote_without_a_paragraph =
    Node Paragraph (at 0) (at 4) (Node GfmFootnoteCall (at 0) (at 4)
    (Node Label (at 0) (at 4) (Node LabelText (at 2) (at 3) (Empty) (Empty)) (Empty)) (Empty))
    (Node GfmFootnoteDefinition (at 4) (at 12) (Node GfmFootnoteDefinitionPrefix (at 4) (at 9)
    (Node GfmFootnoteDefinitionLabelString (at 6) (at 7) (Empty) (Empty))
    (Node ThematicBreak (at 9) (at 12) (Empty) (Empty))) (Empty))

abbrev pub footnote_without_a_paragraph_bytes : List ℕ
footnote_without_a_paragraph_bytes = codes "[^a][^a]:***"

abbrev pub footnote_without_a_paragraph_text : List ℕ
footnote_without_a_paragraph_text =
    codes "<p>" ++ call_tag "a" "a" "1" ++ codes "</p>" ++ (10 ∷ []) ++ section_head ++ (10 ∷ [])
    ++ codes "<ol>" ++ (10 ∷ []) ++ codes "<li id=\"user-content-fn-a\">" ++ (10 ∷ [])
    ++ codes "<hr />" ++ (10 ∷ [])
    ++ way_back "a" ++ (10 ∷ []) ++ codes "</li>" ++ (10 ∷ []) ++ codes "</ol>" ++ (10 ∷ [])
    ++ codes "</section>" ++ (10 ∷ [])

-- footnote that ends in a quote: the tree, its bytes and its text
abbrev pub footnote_that_ends_in_a_quote : Forest
footnote_that_ends_in_a_quote =
    Node Paragraph (at 0) (at 4) (Node GfmFootnoteCall (at 0) (at 4)
    (Node Label (at 0) (at 4) (Node LabelText (at 2) (at 3) (Empty) (Empty)) (Empty)) (Empty))
    (Node GfmFootnoteDefinition (at 4) (at 11) (Node GfmFootnoteDefinitionPrefix (at 4) (at 9)
    (Node GfmFootnoteDefinitionLabelString (at 6) (at 7) (Empty) (Empty))
    (Node BlockQuote (at 9) (at 11) (Node BlockQuotePrefix (at 9) (at 10) (Empty)
    (Node Paragraph (at 10) (at 11) (Node Data (at 10) (at 11) (Empty) (Empty)) (Empty))) (Empty)))
    (Empty))

abbrev pub footnote_that_ends_in_a_quote_bytes : List ℕ
footnote_that_ends_in_a_quote_bytes = codes "[^b][^b]:>c"

abbrev pub footnote_that_ends_in_a_quote_text : List ℕ
footnote_that_ends_in_a_quote_text =
    codes "<p>" ++ call_tag "b" "b" "1" ++ codes "</p>" ++ (10 ∷ []) ++ section_head ++ (10 ∷ [])
    ++ codes "<ol>" ++ (10 ∷ []) ++ codes "<li id=\"user-content-fn-b\">" ++ (10 ∷ [])
    ++ codes "<blockquote>" ++ (10 ∷ []) ++ codes "<p>c</p>" ++ (10 ∷ []) ++ codes "</blockquote>"
    ++ (10 ∷ []) ++ way_back "b" ++ (10 ∷ [])
    ++ codes "</li>" ++ (10 ∷ []) ++ codes "</ol>" ++ (10 ∷ []) ++ codes "</section>" ++ (10 ∷ [])

-- a footnote with CR and LF after its last paragraph: the tree, its bytes and its text
abbrev pub footnote_that_ends_in_line_endings : Forest
footnote_that_ends_in_line_endings =
    Node Paragraph (at 0) (at 4) (Node GfmFootnoteCall (at 0) (at 4)
    (Node Label (at 0) (at 4) (Node LabelText (at 2) (at 3) (Empty) (Empty)) (Empty)) (Empty))
    (Node GfmFootnoteDefinition (at 4) (at 13) (Node GfmFootnoteDefinitionPrefix (at 4) (at 9)
    (Node GfmFootnoteDefinitionLabelString (at 6) (at 7) (Empty) (Empty))
    (Node Paragraph (at 9) (at 10) (Node Data (at 9) (at 10) (Empty) (Empty))
    (Node LineEnding (at 10) (at 12) (Empty) (Node LineEnding (at 12) (at 13) (Empty) (Empty)))))
    (Empty))

abbrev pub footnote_that_ends_in_line_endings_bytes : List ℕ
footnote_that_ends_in_line_endings_bytes = codes "[^b][^b]:c" ++ (13 ∷ []) ++ (10 ∷ []) ++ (10 ∷ [])

abbrev pub footnote_that_ends_in_line_endings_text : List ℕ
footnote_that_ends_in_line_endings_text =
    codes "<p>" ++ call_tag "b" "b" "1" ++ codes "</p>" ++ (13 ∷ []) ++ (10 ∷ [])
    ++ section_head ++ (13 ∷ [])
    ++ (10 ∷ []) ++ codes "<ol>" ++ (13 ∷ []) ++ (10 ∷ []) ++ codes "<li id=\"user-content-fn-b\">"
    ++ (13 ∷ []) ++ (10 ∷ []) ++ codes "<p>c " ++ way_back "b" ++ codes "</p>" ++ (13 ∷ [])
    ++ (10 ∷ []) ++ (10 ∷ []) ++ codes "</li>" ++ (13 ∷ []) ++ (10 ∷ []) ++ codes "</ol>"
    ++ (13 ∷ []) ++ (10 ∷ []) ++ codes "</section>" ++ (13 ∷ []) ++ (10 ∷ [])

-- empty footnote: the tree, its bytes and its text
abbrev pub empty_footnote : Forest
empty_footnote =
    Node Paragraph (at 0) (at 4) (Node GfmFootnoteCall (at 0) (at 4)
    (Node Label (at 0) (at 4) (Node LabelText (at 2) (at 3) (Empty) (Empty)) (Empty)) (Empty))
    (Node GfmFootnoteDefinition (at 4) (at 9) (Node GfmFootnoteDefinitionPrefix (at 4) (at 9)
    (Node GfmFootnoteDefinitionLabelString (at 6) (at 7) (Empty) (Empty)) (Empty)) (Empty))

abbrev pub empty_footnote_bytes : List ℕ
empty_footnote_bytes = codes "[^b][^b]:"

abbrev pub empty_footnote_text : List ℕ
empty_footnote_text =
    codes "<p>" ++ call_tag "b" "b" "1" ++ codes "</p>" ++ (10 ∷ []) ++ section_head
    ++ (10 ∷ []) ++ codes "<ol>"
    ++ (10 ∷ []) ++ codes "<li id=\"user-content-fn-b\">" ++ (10 ∷ []) ++ way_back "b" ++ (10 ∷ [])
    ++ codes "</li>"
    ++ (10 ∷ []) ++ codes "</ol>" ++ (10 ∷ []) ++ codes "</section>" ++ (10 ∷ [])

-- a footnote that ends in a paragraph of HTML: the options, the tree, its bytes and its text
abbrev pub footnote_that_ends_in_html_options : CompileOptions
footnote_that_ends_in_html_options = record default_options { allow_dangerous_html = true }

abbrev pub footnote_that_ends_in_html : Forest
footnote_that_ends_in_html =
    Node Paragraph (at 0) (at 4) (Node GfmFootnoteCall (at 0) (at 4)
    (Node Label (at 0) (at 4) (Node LabelText (at 2) (at 3) (Empty) (Empty)) (Empty)) (Empty))
    (Node GfmFootnoteDefinition (at 4) (at 17) (Node GfmFootnoteDefinitionPrefix (at 4) (at 9)
    (Node GfmFootnoteDefinitionLabelString (at 6) (at 7) (Empty) (Empty))
    (Node HtmlFlow (at 9) (at 17) (Node HtmlFlowData (at 9) (at 17) (Empty) (Empty)) (Empty)))
    (Empty))

abbrev pub footnote_that_ends_in_html_bytes : List ℕ
footnote_that_ends_in_html_bytes = codes "[^b][^b]:<p>c</p>"

abbrev pub footnote_that_ends_in_html_text : List ℕ
footnote_that_ends_in_html_text =
    codes "<p>" ++ call_tag "b" "b" "1" ++ codes "</p>" ++ (10 ∷ []) ++ section_head ++ (10 ∷ [])
    ++ codes "<ol>" ++ (10 ∷ []) ++ codes "<li id=\"user-content-fn-b\">" ++ (10 ∷ [])
    ++ codes "<p>c " ++ way_back "b"
    ++ codes "</p>" ++ (10 ∷ []) ++ codes "</li>" ++ (10 ∷ []) ++ codes "</ol>" ++ (10 ∷ [])
    ++ codes "</section>" ++ (10 ∷ [])

-- a footnote definition in a tight list, whose paragraph has tags, and after which the line ending
-- is dropped: the tree, its bytes and its text
abbrev pub footnote_definition_in_a_tight_list : Forest
footnote_definition_in_a_tight_list =
    Node ListUnordered (at 0) (at 17)
    (Node ListItem (at 0) (at 17) (Node ListItemPrefix (at 0) (at 2)
    (Node ListItemMarker (at 0) (at 1) (Empty) (Node SpaceOrTab (at 1) (at 2) (Empty) (Empty)))
    (Node Paragraph (at 2) (at 7) (Node Data (at 2) (at 3) (Empty)
    (Node GfmFootnoteCall (at 3) (at 7) (Node Label (at 3) (at 7) (Node LabelText (at 5) (at 6)
    (Node Data (at 5) (at 6) (Empty) (Empty)) (Empty)) (Empty)) (Empty)))
    (Node LineEnding (at 7) (at 8) (Empty)
    (Node GfmFootnoteDefinition (at 8) (at 15) (Node GfmFootnoteDefinitionPrefix (at 8) (at 14)
    (Node GfmFootnoteDefinitionLabelString (at 10) (at 11)
    (Node Data (at 10) (at 11) (Empty) (Empty)) (Empty))
    (Node Paragraph (at 14) (at 15) (Node Data (at 14) (at 15) (Empty) (Empty)) (Empty)))
    (Node LineEnding (at 15) (at 16) (Empty) (Node Paragraph (at 16) (at 17)
    (Node Data (at 16) (at 17) (Empty) (Empty)) (Empty))))))) (Empty)) (Empty)

abbrev pub footnote_definition_in_a_tight_list_bytes : List ℕ
footnote_definition_in_a_tight_list_bytes =
    codes "- a[^b]" ++ (10 ∷ []) ++ codes "[^b]: c" ++ (10 ∷ [])
    ++ codes "d"

abbrev pub footnote_definition_in_a_tight_list_text : List ℕ
footnote_definition_in_a_tight_list_text =
    codes "<ul>" ++ (10 ∷ []) ++ codes "<li>a" ++ call_tag "b" "b" "1"
    ++ codes "d</li>" ++ (10 ∷ []) ++ codes "</ul>" ++ (10 ∷ []) ++ section_head ++ (10 ∷ [])
    ++ codes "<ol>" ++ (10 ∷ []) ++ codes "<li id=\"user-content-fn-b\">" ++ (10 ∷ [])
    ++ codes "<p>c " ++ way_back "b"
    ++ codes "</p>" ++ (10 ∷ []) ++ codes "</li>" ++ (10 ∷ []) ++ codes "</ol>" ++ (10 ∷ [])
    ++ codes "</section>" ++ (10 ∷ [])
