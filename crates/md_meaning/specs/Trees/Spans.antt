-- Worked trees of spans, breaks, code and math in a text, references.
use Rattle.std.specs.Prelude.{ℕ, List, [], ◌∷◌, ◌++◌, codes}
use Rattle.md_base.specs.declared.event.Name.TheVariants as name_variants
use name_variants.{CharacterReferenceMarker, CharacterReferenceMarkerHexadecimal}
use name_variants.{CharacterReferenceMarkerNumeric, CharacterReferenceValue, CodeText, CodeTextData}
use name_variants.{Data, Emphasis, GfmStrikethrough, HardBreakEscape, HardBreakTrailing, LineEnding}
use name_variants.{MathFlow, MathFlowChunk, MathFlowFence, MathFlowFenceMeta, MathText}
use name_variants.{MathTextData, Paragraph, Strong}
use Rattle.md_base.specs.Tree.{Forest, Empty, Node}
use Rattle.md_meaning.specs.Trees.{at}

-- trimmed code: the tree, its bytes and its text
abbrev pub trimmed_code : Forest
trimmed_code =
    Node CodeText (at 0) (at 5) (Node CodeTextData (at 1) (at 4) (Empty) (Empty)) (Empty)

abbrev pub trimmed_code_bytes : List ℕ
trimmed_code_bytes = codes "` a `"

abbrev pub trimmed_code_text : List ℕ
trimmed_code_text = codes "<code>a</code>"

-- backslash before a pipe: the tree, its bytes and its text
abbrev pub backslash_before_a_pipe : Forest
backslash_before_a_pipe =
    Node CodeText (at 0) (at 6) (Node CodeTextData (at 1) (at 5) (Empty) (Empty)) (Empty)

abbrev pub backslash_before_a_pipe_bytes : List ℕ
backslash_before_a_pipe_bytes = codes "`a\\|b`"

abbrev pub backslash_before_a_pipe_text : List ℕ
backslash_before_a_pipe_text = codes "<code>a\\|b</code>"

-- spans and breaks: the tree, its bytes and its text
abbrev pub spans_and_breaks : Forest
spans_and_breaks =
    Node Paragraph (at 0) (at 19)
    (Node Emphasis (at 0) (at 3) (Node Data (at 1) (at 2) (Empty) (Empty))
    (Node Strong (at 3) (at 8) (Node Data (at 5) (at 6) (Empty) (Empty))
    (Node GfmStrikethrough (at 8) (at 13) (Node Data (at 10) (at 11) (Empty) (Empty))
    (Node HardBreakEscape (at 13) (at 14) (Empty) (Node LineEnding (at 14) (at 15) (Empty)
    (Node HardBreakTrailing (at 15) (at 17) (Empty) (Node LineEnding (at 17) (at 18) (Empty)
    (Node Data (at 18) (at 19) (Empty) (Empty))))))))) (Empty)

abbrev pub spans_and_breaks_bytes : List ℕ
spans_and_breaks_bytes =
    codes "*a***b**~~c~~\\" ++ (10 ∷ []) ++ codes "  " ++ (10 ∷ []) ++ codes "d"

abbrev pub spans_and_breaks_text : List ℕ
spans_and_breaks_text =
    codes "<p><em>a</em><strong>b</strong><del>c</del><br />" ++ (10 ∷ []) ++ codes "<br />"
    ++ (10 ∷ []) ++ codes "d</p>"

-- math: the tree, its bytes and its text
abbrev pub math : Forest
math =
    Node Paragraph (at 0) (at 3)
    (Node MathText (at 0) (at 3) (Node MathTextData (at 1) (at 2) (Empty) (Empty))
    (Empty)) (Node LineEnding (at 3) (at 4) (Empty) (Node MathFlow (at 4) (at 12)
    (Node MathFlowFence (at 4) (at 7) (Node MathFlowFenceMeta (at 6) (at 7)
    (Node Data (at 6) (at 7) (Empty) (Empty)) (Empty))
    (Node LineEnding (at 7) (at 8) (Empty) (Node MathFlowChunk (at 8) (at 9) (Empty)
    (Node LineEnding (at 9) (at 10) (Empty) (Node MathFlowFence (at 10) (at 12) (Empty) (Empty))))))
    (Empty)))

abbrev pub math_bytes : List ℕ
math_bytes =
    codes "$a$" ++ (10 ∷ []) ++ codes "$$m" ++ (10 ∷ []) ++ codes "b" ++ (10 ∷ []) ++ codes "$$"

abbrev pub math_text : List ℕ
math_text = codes "<p><code class=\"language-math math-inline\">a</code></p>" ++ (10 ∷ [])
    ++ codes "<pre><code class=\"language-math math-display\">b" ++ (10 ∷ [])
    ++ codes "</code></pre>"

-- number references: the tree, its bytes and its text
abbrev pub number_references : Forest
number_references =
    Node Paragraph (at 0) (at 11) (Node CharacterReferenceMarker (at 0) (at 1) (Empty)
    (Node CharacterReferenceMarkerNumeric (at 1) (at 2) (Empty)
    (Node CharacterReferenceValue (at 2) (at 4) (Empty)
    (Node CharacterReferenceMarker (at 5) (at 6) (Empty)
    (Node CharacterReferenceMarkerNumeric (at 6) (at 7) (Empty)
    (Node CharacterReferenceMarkerHexadecimal (at 7) (at 8) (Empty)
    (Node CharacterReferenceValue (at 8) (at 10) (Empty) (Empty)))))))) (Empty)

abbrev pub number_references_bytes : List ℕ
number_references_bytes = codes "&#60;&#x3C;"

abbrev pub number_references_text : List ℕ
number_references_text = codes "<p>&lt;&lt;</p>"

-- math in a text with a line ending in it, which is a space: the tree, its bytes and its text
abbrev pub math_on_two_lines : Forest
math_on_two_lines =
    Node MathText (at 0) (at 5)
    (Node MathTextData (at 1) (at 2) (Empty) (Node LineEnding (at 2) (at 3) (Empty)
    (Node MathTextData (at 3) (at 4) (Empty) (Empty)))) (Empty)

abbrev pub math_on_two_lines_bytes : List ℕ
math_on_two_lines_bytes = codes "$a" ++ (10 ∷ []) ++ codes "b$"

abbrev pub math_on_two_lines_text : List ℕ
math_on_two_lines_text = codes "<code class=\"language-math math-inline\">a b</code>"

-- references by numbers above the last character: the tree, its bytes and its text
abbrev pub references_past_the_last_character : Forest
references_past_the_last_character =
    Node Paragraph (at 0) (at 23) (Node CharacterReferenceMarker (at 0) (at 1) (Empty)
    (Node CharacterReferenceMarkerNumeric (at 1) (at 2) (Empty) (Node CharacterReferenceValue (at 2)
    (at 12) (Empty) (Node CharacterReferenceMarker (at 13) (at 14) (Empty)
    (Node CharacterReferenceMarkerNumeric (at 14) (at 15) (Empty)
    (Node CharacterReferenceMarkerHexadecimal (at 15) (at 16) (Empty)
    (Node CharacterReferenceValue (at 16) (at 22) (Empty) (Empty)))))))) (Empty)

abbrev pub references_past_the_last_character_bytes : List ℕ
references_past_the_last_character_bytes = codes "&#4294967293;&#x110000;"

abbrev pub references_past_the_last_character_text : List ℕ
references_past_the_last_character_text =
    codes "<p>" ++ (239 ∷ 191 ∷ 189 ∷ 239 ∷ 191 ∷ 189 ∷ []) ++ codes "</p>"
