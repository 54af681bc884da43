-- Worked trees of headings, code and HTML.
use Rattle.std.specs.Prelude.{ℕ, true, List, [], ◌∷◌, ◌++◌, codes}
use Rattle.md_base.specs.declared.event.Name.TheVariants as name_variants
use name_variants.{BlockQuote, BlockQuotePrefix, CodeFenced, CodeFencedFence, CodeFencedFenceInfo}
use name_variants.{CodeFlowChunk, CodeIndented, Data, Emphasis, HeadingAtx, HeadingAtxSequence}
use name_variants.{HeadingAtxText, HeadingSetextText, HeadingSetextUnderlineSequence, HtmlFlow}
use name_variants.{HtmlFlowData, HtmlText, HtmlTextData, LineEnding, Other, Paragraph, SpaceOrTab}
use Rattle.md_base.specs.Tree.{Forest, Empty, Node}
use Rattle.md_text.specs.Defaults.{default_options}
use Rattle.md_text.specs.declared.options.CompileOptions.{CompileOptions}
use Rattle.md_meaning.specs.Trees.{at, at_column}

-- heading with emphasis: the tree, its bytes and its text
abbrev pub heading_with_emphasis : Forest
heading_with_emphasis =
    Node HeadingAtx (at 0) (at 21) (Node HeadingAtxSequence (at 0) (at 2) (Empty)
    (Node SpaceOrTab (at 2) (at 3) (Empty) (Node HeadingAtxText (at 3) (at 21) (Node Data (at 3)
    (at 7) (Empty) (Node Emphasis (at 7) (at 15) (Node Data (at 8) (at 14) (Empty) (Empty))
    (Node Data (at 15) (at 21) (Empty) (Empty)))) (Empty)))) (Empty)

abbrev pub heading_with_emphasis_bytes : List ℕ
heading_with_emphasis_bytes =
    codes "## Hi, *Saturn*! " ++ (240 ∷ []) ++ (159 ∷ []) ++ (170 ∷ []) ++ (144 ∷ [])

abbrev pub heading_with_emphasis_text : List ℕ
heading_with_emphasis_text =
    codes "<h2>Hi, <em>Saturn</em>! " ++ (240 ∷ []) ++ (159 ∷ []) ++ (170 ∷ [])
    ++ (144 ∷ [])
    ++ codes "</h2>"

-- fence in a quote: the tree, its bytes and its text
abbrev pub fence_in_a_quote : Forest
fence_in_a_quote =
    Node BlockQuote (at 0) (at 9) (Node BlockQuotePrefix (at 0) (at 2) (Empty)
    (Node CodeFenced (at 2) (at 9) (Node CodeFencedFence (at 2) (at 5) (Empty)
    (Node LineEnding (at 5) (at 6) (Empty) (Node BlockQuotePrefix (at 6) (at 8) (Empty)
    (Node CodeFlowChunk (at 8) (at 9) (Empty) (Empty))))) (Empty))) (Empty)

abbrev pub fence_in_a_quote_bytes : List ℕ
fence_in_a_quote_bytes = codes "> ```" ++ (10 ∷ []) ++ codes "> a"

abbrev pub fence_in_a_quote_text : List ℕ
fence_in_a_quote_text = codes "<blockquote>" ++ (10 ∷ []) ++ codes "<pre><code>a" ++ (10 ∷ [])
    ++ codes "</code></pre>" ++ (10 ∷ []) ++ codes "</blockquote>"

-- virtual spaces: the tree, its bytes and its text
abbrev pub virtual_spaces : Forest
virtual_spaces =
    Node CodeIndented (at 0) (at 3)
    (Node CodeFlowChunk (at_column 0 2) (at_column 2 3) (Empty) (Empty)) (Empty)

abbrev pub virtual_spaces_bytes : List ℕ
virtual_spaces_bytes = (9 ∷ []) ++ codes "a" ++ (9 ∷ [])

abbrev pub virtual_spaces_text : List ℕ
virtual_spaces_text =
    codes "<pre><code>  a" ++ (9 ∷ []) ++ codes "  " ++ (10 ∷ []) ++ codes "</code></pre>"

-- setext heading: the tree, its bytes and its text
abbrev pub setext_heading : Forest
setext_heading =
    Node HeadingSetextText (at 0) (at 1) (Node Data (at 0) (at 1) (Empty) (Empty)) (Node LineEnding
    (at 1) (at 2) (Empty) (Node HeadingSetextUnderlineSequence (at 2) (at 4) (Empty) (Empty)))

abbrev pub setext_heading_bytes : List ℕ
setext_heading_bytes = codes "a" ++ (10 ∷ []) ++ codes "--"

abbrev pub setext_heading_text : List ℕ
setext_heading_text = codes "<h2>a</h2>"

-- HTML if it is left as it is: the options, the tree, its bytes and its text
abbrev pub html_as_it_is_options : CompileOptions
html_as_it_is_options = record default_options { allow_dangerous_html = true }

abbrev pub html_as_it_is : Forest
html_as_it_is =
    Node HtmlFlow (at 0) (at 3) (Node HtmlFlowData (at 0) (at 3) (Empty) (Empty)) (Empty)

abbrev pub html_as_it_is_bytes : List ℕ
html_as_it_is_bytes = codes "<i>"

abbrev pub html_as_it_is_text : List ℕ
html_as_it_is_text = codes "<i>"

-- closed fence with an info: the tree, its bytes and its text
abbrev pub closed_fence_with_an_info : Forest
closed_fence_with_an_info =
    Node CodeFenced (at 0) (at 12) (Node CodeFencedFence (at 0) (at 5)
    (Node CodeFencedFenceInfo (at 3) (at 5) (Node Data (at 3) (at 5) (Empty) (Empty)) (Empty))
    (Node LineEnding (at 5) (at 6) (Empty) (Node CodeFlowChunk (at 6) (at 8) (Empty)
    (Node LineEnding (at 8) (at 9) (Empty) (Node CodeFencedFence (at 9) (at 12) (Empty) (Empty))))))
    (Empty)

abbrev pub closed_fence_with_an_info_bytes : List ℕ
closed_fence_with_an_info_bytes =
    codes "```rs" ++ (10 ∷ []) ++ codes "a<" ++ (10 ∷ []) ++ codes "```"

abbrev pub closed_fence_with_an_info_text : List ℕ
closed_fence_with_an_info_text =
    codes "<pre><code class=\"language-rs\">a&lt;" ++ (10 ∷ []) ++ codes "</code></pre>"

-- unclosed fence: the tree, its bytes and its text
abbrev pub unclosed_fence : Forest
unclosed_fence =
    Node CodeFenced (at 0) (at 5) (Node CodeFencedFence (at 0) (at 3) (Empty)
    (Node LineEnding (at 3) (at 4) (Empty) (Node CodeFlowChunk (at 4) (at 5) (Empty) (Empty))))
    (Empty)

abbrev pub unclosed_fence_bytes : List ℕ
unclosed_fence_bytes = codes "```" ++ (10 ∷ []) ++ codes "a"

abbrev pub unclosed_fence_text : List ℕ
unclosed_fence_text = codes "<pre><code>a" ++ (10 ∷ []) ++ codes "</code></pre>" ++ (10 ∷ [])

-- unclosed fence alone in a quote: the tree, its bytes and its text
abbrev pub unclosed_fence_alone_in_a_quote : Forest
unclosed_fence_alone_in_a_quote =
    Node BlockQuote (at 0) (at 4) (Node BlockQuotePrefix (at 0) (at 1) (Empty)
    (Node CodeFenced (at 1) (at 4) (Node CodeFencedFence (at 1) (at 4) (Empty) (Empty)) (Empty)))
    (Empty)

abbrev pub unclosed_fence_alone_in_a_quote_bytes : List ℕ
unclosed_fence_alone_in_a_quote_bytes = codes ">```"

abbrev pub unclosed_fence_alone_in_a_quote_text : List ℕ
unclosed_fence_alone_in_a_quote_text =
    codes "<blockquote>" ++ (10 ∷ []) ++ codes "<pre><code></code></pre>"
    ++ (10 ∷ []) ++ codes "</blockquote>"

-- code without a chunk: the tree, its bytes and its text
abbrev pub code_without_a_chunk : Forest
code_without_a_chunk =
    Node CodeIndented (at 0) (at 4) (Empty) (Empty)

abbrev pub code_without_a_chunk_bytes : List ℕ
code_without_a_chunk_bytes = codes "    "

abbrev pub code_without_a_chunk_text : List ℕ
code_without_a_chunk_text = codes "<pre><code></code></pre>"

-- HTML if it is escaped: the tree, its bytes and its text
abbrev pub html_by_default : Forest
html_by_default =
    Node HtmlFlow (at 0) (at 3) (Node HtmlFlowData (at 0) (at 3) (Empty) (Empty))
    (Node LineEnding (at 3) (at 4) (Empty) (Node Paragraph (at 4) (at 7) (Node HtmlText (at 4)
    (at 7) (Node HtmlTextData (at 4) (at 7) (Empty) (Empty)) (Empty)) (Empty)))

abbrev pub html_by_default_bytes : List ℕ
html_by_default_bytes = codes "<i>" ++ (10 ∷ []) ++ codes "<b>"

abbrev pub html_by_default_text : List ℕ
html_by_default_text = codes "&lt;i&gt;" ++ (10 ∷ []) ++ codes "<p>&lt;b&gt;</p>"

-- HTML if it is left, and escaped by the tag filter: the options, the tree, its bytes and its text
abbrev pub filtered_html_options : CompileOptions
filtered_html_options = record default_options { allow_dangerous_html = true; gfm_tagfilter = true }

abbrev pub filtered_html : Forest
filtered_html =
    Node HtmlFlow (at 0) (at 8) (Node HtmlFlowData (at 0) (at 8) (Empty) (Empty)) (Empty)

abbrev pub filtered_html_bytes : List ℕ
filtered_html_bytes = codes "<xmp><i>"

abbrev pub filtered_html_text : List ℕ
filtered_html_text = codes "&lt;xmp><i>"

-- setext heading after two endings: the tree, its bytes and its text
abbrev pub setext_heading_after_two_endings : Forest
setext_heading_after_two_endings =
    Node HeadingSetextText (at 0) (at 1) (Node Data (at 0) (at 1) (Empty) (Empty))
    (Node LineEnding (at 1) (at 2) (Empty) (Node LineEnding (at 2) (at 3) (Empty)
    (Node HeadingSetextUnderlineSequence (at 3) (at 4) (Empty) (Empty))))

abbrev pub setext_heading_after_two_endings_bytes : List ℕ
setext_heading_after_two_endings_bytes = codes "a" ++ (10 ∷ []) ++ (10 ∷ []) ++ codes "="

abbrev pub setext_heading_after_two_endings_text : List ℕ
setext_heading_after_two_endings_text = (10 ∷ []) ++ codes "<h1>a</h1>"

-- heading mark over a cut tab: the tree, its bytes and its text
abbrev pub heading_mark_over_a_cut_tab : Forest
heading_mark_over_a_cut_tab =
    Node HeadingAtx (at 0) (at 0)
    (Node HeadingAtxSequence (at_column 0 1) (at_column 0 4) (Empty) (Empty)) (Empty)

abbrev pub heading_mark_over_a_cut_tab_bytes : List ℕ
heading_mark_over_a_cut_tab_bytes = (9 ∷ [])

abbrev pub heading_mark_over_a_cut_tab_text : List ℕ
heading_mark_over_a_cut_tab_text = codes "<h6></h6>"

-- a tag that is split between two data nodes, which passes the tag filter: the options, the tree,
-- its bytes and its text
abbrev pub split_tag_options : CompileOptions
split_tag_options = record default_options { allow_dangerous_html = true; gfm_tagfilter = true }

abbrev pub split_tag : Forest
split_tag =
    Node HtmlFlow (at 0) (at 5) (Node HtmlFlowData (at 0) (at 3) (Empty)
    (Node HtmlFlowData (at 3) (at 5) (Empty) (Empty))) (Empty)

abbrev pub split_tag_bytes : List ℕ
split_tag_bytes = codes "<xmp>"

abbrev pub split_tag_text : List ℕ
split_tag_text = codes "<xmp>"

-- an unclosed fence in a transparent node, which is not the last child: the tree, its
-- bytes and its text
abbrev pub fence_in_another_name : Forest
fence_in_another_name =
    Node BlockQuote (at 0) (at 3) (Node CodeFenced (at 0) (at 3) (Node (Other 1) (at 0) (at 3)
    (Node CodeFencedFence (at 0) (at 3) (Empty) (Empty)) (Empty)) (Empty)) (Empty)

abbrev pub fence_in_another_name_bytes : List ℕ
fence_in_another_name_bytes = codes "```"

abbrev pub fence_in_another_name_text : List ℕ
fence_in_another_name_text = codes "<blockquote>" ++ (10 ∷ []) ++ codes "<pre><code>" ++ (10 ∷ [])
    ++ codes "</code></pre>" ++ (10 ∷ []) ++ codes "</blockquote>"
