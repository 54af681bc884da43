-- Worked trees of links, images, definitions and autolinks.
use Rattle.std.specs.Prelude.{ℕ, true, List, [], ◌∷◌, ◌++◌, codes}
use Rattle.md_base.specs.declared.event.Name.TheVariants as name_variants
use name_variants.{AutolinkEmail, AutolinkProtocol, BlankLineEnding, CodeText, CodeTextData, Data}
use name_variants.{Definition, DefinitionDestinationString, DefinitionLabelString}
use name_variants.{DefinitionTitleString, Emphasis, GfmAutolinkLiteralEmail}
use name_variants.{GfmAutolinkLiteralMailto, GfmAutolinkLiteralProtocol, GfmAutolinkLiteralWww}
use name_variants.{GfmAutolinkLiteralXmpp, GfmTaskListItemCheck, HardBreakEscape, Image, Label}
use name_variants.{LabelText, LineEnding, Link, Paragraph, ReferenceString, Resource}
use name_variants.{ResourceDestinationString, ResourceTitleString, SpaceOrTab, Strong}
use Rattle.md_base.specs.Tree.{Forest, Empty, Node}
use Rattle.md_text.specs.Defaults.{default_options}
use Rattle.md_text.specs.declared.options.CompileOptions.{CompileOptions}
use Rattle.md_meaning.specs.Trees.{at}

-- first definition: the tree, its bytes and its text
abbrev pub first_definition : Forest
first_definition =
    Node Paragraph (at 0) (at 3) (Node Link (at 0) (at 3) (Node Label (at 0) (at 3)
    (Node LabelText (at 1) (at 2) (Node Data (at 1) (at 2) (Empty) (Empty)) (Empty))
    (Empty)) (Empty)) (Node LineEnding (at 3) (at 4) (Empty)
    (Node BlankLineEnding (at 4) (at 5) (Empty) (Node Definition (at 5) (at 11)
    (Node DefinitionLabelString (at 6) (at 7) (Node Data (at 6) (at 7) (Empty) (Empty))
    (Node DefinitionDestinationString (at 10) (at 11) (Node Data (at 10) (at 11) (Empty) (Empty))
    (Empty))) (Node LineEnding (at 11) (at 12) (Empty) (Node Definition (at 12) (at 18)
    (Node DefinitionLabelString (at 13) (at 14) (Node Data (at 13) (at 14) (Empty) (Empty))
    (Node DefinitionDestinationString (at 17) (at 18)
    (Node Data (at 17) (at 18) (Empty) (Empty)) (Empty)))
    (Empty))))))

abbrev pub first_definition_bytes : List ℕ
first_definition_bytes =
    codes "[a]" ++ (10 ∷ []) ++ (10 ∷ []) ++ codes "[a]: b" ++ (10 ∷ []) ++ codes "[A]: c"

abbrev pub first_definition_text : List ℕ
first_definition_text = codes "<p><a href=\"b\">a</a></p>" ++ (10 ∷ [])

-- image text: the tree, its bytes and its text
abbrev pub image_text : Forest
image_text =
    Node Paragraph (at 0) (at 15) (Node Image (at 0) (at 15)
    (Node Label (at 0) (at 8) (Node LabelText (at 2) (at 7) (Node Data (at 2) (at 4) (Empty)
    (Node Emphasis (at 4) (at 7) (Node Data (at 5) (at 6) (Empty) (Empty))
    (Empty))) (Empty)) (Node Resource (at 8) (at 15) (Node ResourceDestinationString (at 9) (at 10)
    (Node Data (at 9) (at 10) (Empty) (Empty)) (Node SpaceOrTab (at 10) (at 11) (Empty)
    (Node ResourceTitleString (at 12) (at 13) (Node Data (at 12) (at 13) (Empty) (Empty)) (Empty))))
    (Empty)))
    (Empty)) (Empty)

abbrev pub image_text_bytes : List ℕ
image_text_bytes = codes "![a *b*](c \"d\")"

abbrev pub image_text_text : List ℕ
image_text_text = codes "<p><img src=\"c\" alt=\"a b\" title=\"d\" /></p>"

-- nested autolink: the tree, its bytes and its text
abbrev pub nested_autolink : Forest
nested_autolink =
    Node Link (at 0) (at 15) (Node Label (at 0) (at 12) (Node LabelText (at 1) (at 11)
    (Node AutolinkProtocol (at 2) (at 10) (Empty) (Empty)) (Empty))
    (Node Resource (at 12) (at 15) (Node ResourceDestinationString (at 13) (at 14)
    (Node Data (at 13) (at 14) (Empty) (Empty)) (Empty)) (Empty))) (Empty)

abbrev pub nested_autolink_bytes : List ℕ
nested_autolink_bytes = codes "[<http://a>](b)"

abbrev pub nested_autolink_text : List ℕ
nested_autolink_text = codes "<a href=\"b\"><a href=\"http://a\">http://a</a></a>"

-- code, a break, a task, strong text, an autolink and a link in the label of an image: the tree,
-- its bytes and its text
abbrev pub image_around_other_names : Forest
image_around_other_names =
    Node Paragraph (at 0) (at 34) (Node Image (at 0) (at 34)
    (Node Label (at 0) (at 31) (Node LabelText (at 2) (at 30)
    (Node CodeText (at 2) (at 7) (Node CodeTextData (at 3) (at 6) (Empty) (Empty))
    (Node HardBreakEscape (at 7) (at 8) (Empty) (Node GfmTaskListItemCheck (at 8) (at 11) (Empty)
    (Node Strong (at 11) (at 16) (Node Data (at 13) (at 14) (Empty) (Empty))
    (Node AutolinkProtocol (at 16) (at 24) (Empty) (Node Link (at 24) (at 30) (Node Label (at 24)
    (at 27) (Node LabelText (at 25) (at 26) (Node Data (at 25) (at 26) (Empty) (Empty)) (Empty))
    (Node Resource (at 27) (at 30) (Node ResourceDestinationString (at 28) (at 29)
    (Node Data (at 28) (at 29) (Empty) (Empty)) (Empty)) (Empty))) (Empty))))))) (Empty))
    (Node Resource (at 31) (at 34) (Node ResourceDestinationString (at 32) (at 33)
    (Node Data (at 32) (at 33) (Empty) (Empty)) (Empty)) (Empty))) (Empty)) (Empty)

abbrev pub image_around_other_names_bytes : List ℕ
image_around_other_names_bytes = codes "![` a `\\[ ]**s**http://c[l](d)](u)"

abbrev pub image_around_other_names_text : List ℕ
image_around_other_names_text = codes "<p><img src=\"u\" alt=\"ashttp://cl\" /></p>"

-- reference beside a label: the tree, its bytes and its text
abbrev pub reference_beside_a_label : Forest
reference_beside_a_label =
    Node Paragraph (at 0) (at 4) (Node Link (at 0) (at 4) (Node Label (at 0) (at 3)
    (Node LabelText (at 1) (at 2) (Node Data (at 1) (at 2) (Empty) (Empty)) (Empty))
    (Node ReferenceString (at 3) (at 4) (Node Data (at 3) (at 4) (Empty) (Empty)) (Empty))) (Empty))
    (Node Definition (at 4) (at 10) (Node DefinitionLabelString (at 5) (at 6)
    (Node Data (at 5) (at 6) (Empty) (Empty)) (Node DefinitionDestinationString (at 9) (at 10)
    (Node Data (at 9) (at 10) (Empty) (Empty)) (Empty)))
    (Node Definition (at 10) (at 20) (Node DefinitionLabelString (at 11) (at 12)
    (Node Data (at 11) (at 12) (Empty) (Empty)) (Node DefinitionDestinationString (at 15) (at 16)
    (Node Data (at 15) (at 16) (Empty) (Empty)) (Node DefinitionTitleString (at 18) (at 19)
    (Node Data (at 18) (at 19) (Empty) (Empty)) (Empty)))) (Empty)))

abbrev pub reference_beside_a_label_bytes : List ℕ
reference_beside_a_label_bytes = codes "[a]r[a]: e[r]: d \"t\""

abbrev pub reference_beside_a_label_text : List ℕ
reference_beside_a_label_text = codes "<p><a href=\"d\" title=\"t\">a</a></p>"

-- empty title: the tree, its bytes and its text
abbrev pub empty_title : Forest
empty_title =
    Node Paragraph (at 0) (at 3) (Node Link (at 0) (at 3) (Node Label (at 0) (at 3)
    (Node LabelText (at 1) (at 2) (Node Data (at 1) (at 2) (Empty) (Empty)) (Empty))
    (Empty)) (Empty)) (Node Definition (at 3) (at 12) (Node DefinitionLabelString (at 4) (at 5)
    (Node Data (at 4) (at 5) (Empty) (Empty)) (Node DefinitionDestinationString (at 8) (at 9)
    (Node Data (at 8) (at 9) (Empty) (Empty))
    (Node DefinitionTitleString (at 11) (at 11) (Empty) (Empty)))) (Empty))

abbrev pub empty_title_bytes : List ℕ
empty_title_bytes = codes "[a][a]: e \"\""

abbrev pub empty_title_text : List ℕ
empty_title_text = codes "<p><a href=\"e\" title=\"\">a</a></p>"

-- protocols that are not permitted: the tree, its bytes and its text
abbrev pub protocols_that_are_not_permitted : Forest
protocols_that_are_not_permitted =
    Node Paragraph (at 0) (at 41) (Node Link (at 0) (at 17) (Node Label (at 0) (at 3)
    (Node LabelText (at 1) (at 2) (Node Data (at 1) (at 2) (Empty) (Empty)) (Empty))
    (Node Resource (at 3) (at 17) (Node ResourceDestinationString (at 4) (at 16)
    (Node Data (at 4) (at 16) (Empty) (Empty)) (Empty)) (Empty)))
    (Node Image (at 17) (at 31) (Node Label (at 17) (at 21)
    (Node LabelText (at 19) (at 20) (Node Data (at 19) (at 20) (Empty) (Empty)) (Empty))
    (Node Resource (at 21) (at 31) (Node ResourceDestinationString (at 22) (at 30)
    (Node Data (at 22) (at 30) (Empty) (Empty)) (Empty)) (Empty)))
    (Node Link (at 31) (at 41) (Node Label (at 31) (at 34)
    (Node LabelText (at 32) (at 33) (Node Data (at 32) (at 33) (Empty) (Empty)) (Empty))
    (Node Resource (at 34) (at 41) (Node ResourceDestinationString (at 35) (at 40)
    (Node Data (at 35) (at 40) (Empty) (Empty)) (Empty)) (Empty))) (Empty)))) (Empty)

abbrev pub protocols_that_are_not_permitted_bytes : List ℕ
protocols_that_are_not_permitted_bytes = codes "[a](javascript:b)![c](mailto:d)[e](IRC:f)"

abbrev pub protocols_that_are_not_permitted_text : List ℕ
protocols_that_are_not_permitted_text =
    codes "<p><a href=\"\">a</a><img src=\"\" alt=\"c\" /><a href=\"IRC:f\">e</a></p>"

-- autolinks: of mail, literals, one in a link, and one whose protocol is not permitted: the tree,
-- its bytes and its text
abbrev pub literal_autolinks : Forest
literal_autolinks =
    Node Paragraph (at 0) (at 50) (Node AutolinkEmail (at 0) (at 3) (Empty)
    (Node GfmAutolinkLiteralWww (at 3) (at 8) (Empty) (Node Link (at 8) (at 21)
    (Node Label (at 8) (at 18) (Node LabelText (at 9) (at 17)
    (Node GfmAutolinkLiteralProtocol (at 9) (at 17) (Empty) (Empty)) (Empty))
    (Node Resource (at 18) (at 21) (Node ResourceDestinationString (at 19) (at 20)
    (Node Data (at 19) (at 20) (Empty) (Empty)) (Empty)) (Empty)))
    (Node GfmAutolinkLiteralEmail (at 21) (at 24) (Empty)
    (Node GfmAutolinkLiteralXmpp (at 24) (at 30) (Empty)
    (Node GfmAutolinkLiteralMailto (at 30) (at 38) (Empty)
    (Node AutolinkProtocol (at 38) (at 50) (Empty) (Empty)))))))) (Empty)

abbrev pub literal_autolinks_bytes : List ℕ
literal_autolinks_bytes = codes "a@bwww.c[http://d](e)f@gxmpp:hmailto:ijavascript:j"

abbrev pub literal_autolinks_text : List ℕ
literal_autolinks_text =
    codes
    "<p><a href=\"mailto:a@b\">a@b</a><a href=\"http://www.c\">www.c</a><a href=\"e\">http://d</a>"
    ++ codes "<a href=\"mailto:f@g\">f@g</a><a href=\"xmpp:h\">xmpp:h</a>"
    ++ codes "<a href=\"mailto:i\">mailto:i</a><a href=\"\">javascript:j</a></p>"

-- links and images of any protocol, if the options allow it: the options, the tree, its bytes and
-- its text
abbrev pub any_protocol_options : CompileOptions
any_protocol_options =
    record default_options { allow_any_img_src = true; allow_dangerous_protocol = true }

abbrev pub any_protocol : Forest
any_protocol =
    Node Paragraph (at 0) (at 31) (Node Image (at 0) (at 14) (Node Label (at 0) (at 4)
    (Node LabelText (at 2) (at 3) (Node Data (at 2) (at 3) (Empty) (Empty)) (Empty))
    (Node Resource (at 4) (at 14) (Node ResourceDestinationString (at 5) (at 13)
    (Node Data (at 5) (at 13) (Empty) (Empty)) (Empty)) (Empty)))
    (Node Link (at 14) (at 31) (Node Label (at 14) (at 17)
    (Node LabelText (at 15) (at 16) (Node Data (at 15) (at 16) (Empty) (Empty)) (Empty))
    (Node Resource (at 17) (at 31) (Node ResourceDestinationString (at 18) (at 30)
    (Node Data (at 18) (at 30) (Empty) (Empty)) (Empty)) (Empty))) (Empty))) (Empty)

abbrev pub any_protocol_bytes : List ℕ
any_protocol_bytes = codes "![a](mailto:b)[c](javascript:d)"

abbrev pub any_protocol_text : List ℕ
any_protocol_text = codes "<p><img src=\"mailto:b\" alt=\"a\" /><a href=\"javascript:d\">c</a></p>"

-- a definition with `&` in its destination, which is escaped once: the tree, its bytes and its text
abbrev pub ampersand_in_a_destination : Forest
ampersand_in_a_destination =
    Node Paragraph (at 0) (at 3) (Node Link (at 0) (at 3) (Node Label (at 0) (at 3)
    (Node LabelText (at 1) (at 2) (Node Data (at 1) (at 2) (Empty) (Empty)) (Empty)) (Empty))
    (Empty)) (Node LineEnding (at 3) (at 4) (Empty) (Node BlankLineEnding (at 4) (at 5) (Empty)
    (Node Definition (at 5) (at 15) (Node DefinitionLabelString (at 6) (at 7)
    (Node Data (at 6) (at 7) (Empty) (Empty)) (Node DefinitionDestinationString (at 10) (at 15)
    (Node Data (at 10) (at 15) (Empty) (Empty)) (Empty))) (Empty))))

abbrev pub ampersand_in_a_destination_bytes : List ℕ
ampersand_in_a_destination_bytes = codes "[a]" ++ (10 ∷ []) ++ (10 ∷ []) ++ codes "[a]: b?c&d"

abbrev pub ampersand_in_a_destination_text : List ℕ
ampersand_in_a_destination_text = codes "<p><a href=\"b?c&amp;d\">a</a></p>" ++ (10 ∷ [])

-- a label with CR in it, which is compared as a space: the tree, its bytes and its text
abbrev pub carriage_return_in_a_label : Forest
carriage_return_in_a_label =
    Node Paragraph (at 0) (at 5) (Node Link (at 0) (at 5) (Node Label (at 0) (at 5) (Node LabelText
    (at 1) (at 4) (Node Data (at 1) (at 2) (Empty) (Node LineEnding (at 2) (at 3) (Empty)
    (Node Data (at 3) (at 4) (Empty) (Empty)))) (Empty)) (Empty)) (Empty)) (Node Definition (at 5)
    (at 13) (Node DefinitionLabelString (at 6) (at 9) (Node Data (at 6) (at 9) (Empty) (Empty))
    (Node DefinitionDestinationString (at 12) (at 13)
    (Node Data (at 12) (at 13) (Empty) (Empty)) (Empty))) (Empty))

abbrev pub carriage_return_in_a_label_bytes : List ℕ
carriage_return_in_a_label_bytes = codes "[a" ++ (13 ∷ []) ++ codes "b][a b]: c"

abbrev pub carriage_return_in_a_label_text : List ℕ
carriage_return_in_a_label_text = codes "<p><a href=\"c\">a" ++ (13 ∷ []) ++ codes "b</a></p>"
