-- Worked trees of lists, items and tasks.
use Rattle.std.specs.Prelude.{ℕ, true, List, [], ◌∷◌, ◌++◌, codes}
use Rattle.md_base.specs.declared.event.Name.TheVariants as name_variants
use name_variants.{BlankLineEnding, BlockQuote, BlockQuotePrefix, CodeFenced, CodeFencedFence}
use name_variants.{CodeFlowChunk, Data, GfmTaskListItemCheck, GfmTaskListItemValueChecked}
use name_variants.{LineEnding, ListItem, ListItemMarker, ListItemPrefix, ListItemValue, ListOrdered}
use name_variants.{ListUnordered, Paragraph, SpaceOrTab}
use Rattle.md_base.specs.Tree.{Forest, Empty, Node}
use Rattle.md_text.specs.Defaults.{default_options}
use Rattle.md_text.specs.declared.options.CompileOptions.{CompileOptions}
use Rattle.md_meaning.specs.Trees.{at}

-- tight list: the tree, its bytes and its text
abbrev pub tight_list : Forest
tight_list =
    Node ListUnordered (at 0) (at 7) (Node ListItem (at 0) (at 3)
    (Node ListItemPrefix (at 0) (at 2) (Node ListItemMarker (at 0) (at 1) (Empty)
    (Node SpaceOrTab (at 1) (at 2) (Empty) (Empty))) (Node Paragraph (at 2) (at 3)
    (Node Data (at 2) (at 3) (Empty) (Empty)) (Empty)))
    (Node LineEnding (at 3) (at 4) (Empty) (Node ListItem (at 4) (at 7)
    (Node ListItemPrefix (at 4) (at 6) (Node ListItemMarker (at 4) (at 5) (Empty)
    (Node SpaceOrTab (at 5) (at 6) (Empty) (Empty))) (Node Paragraph (at 6) (at 7)
    (Node Data (at 6) (at 7) (Empty) (Empty)) (Empty))) (Empty)))) (Empty)

abbrev pub tight_list_bytes : List ℕ
tight_list_bytes = codes "- a" ++ (10 ∷ []) ++ codes "- b"

abbrev pub tight_list_text : List ℕ
tight_list_text = codes "<ul>" ++ (10 ∷ []) ++ codes "<li>a</li>" ++ (10 ∷ []) ++ codes "<li>b</li>"
    ++ (10 ∷ []) ++ codes "</ul>"

-- loose list: the tree, its bytes and its text
abbrev pub loose_list : Forest
loose_list =
    Node ListUnordered (at 0) (at 8) (Node ListItem (at 0) (at 3)
    (Node ListItemPrefix (at 0) (at 2) (Node ListItemMarker (at 0) (at 1) (Empty)
    (Node SpaceOrTab (at 1) (at 2) (Empty) (Empty))) (Node Paragraph (at 2) (at 3)
    (Node Data (at 2) (at 3) (Empty) (Empty)) (Empty)))
    (Node LineEnding (at 3) (at 4) (Empty) (Node BlankLineEnding (at 4) (at 5) (Empty)
    (Node ListItem (at 5) (at 8) (Node ListItemPrefix (at 5) (at 7)
    (Node ListItemMarker (at 5) (at 6) (Empty) (Node SpaceOrTab (at 6) (at 7) (Empty) (Empty)))
    (Node Paragraph (at 7) (at 8) (Node Data (at 7) (at 8) (Empty) (Empty)) (Empty))) (Empty)))))
    (Empty)

abbrev pub loose_list_bytes : List ℕ
loose_list_bytes = codes "- a" ++ (10 ∷ []) ++ (10 ∷ []) ++ codes "- b"

abbrev pub loose_list_text : List ℕ
loose_list_text = codes "<ul>" ++ (10 ∷ []) ++ codes "<li>" ++ (10 ∷ []) ++ codes "<p>a</p>"
    ++ (10 ∷ []) ++ codes "</li>" ++ (10 ∷ []) ++ codes "<li>" ++ (10 ∷ []) ++ codes "<p>b</p>"
    ++ (10 ∷ []) ++ codes "</li>" ++ (10 ∷ []) ++ codes "</ul>"

-- empty item: the tree, its bytes and its text
abbrev pub empty_item : Forest
empty_item =
    Node ListUnordered (at 0) (at 5) (Node ListItem (at 0) (at 1)
    (Node ListItemPrefix (at 0) (at 1) (Node ListItemMarker (at 0) (at 1) (Empty) (Empty)) (Empty))
    (Node BlankLineEnding (at 1) (at 2) (Empty) (Node ListItem (at 2) (at 5)
    (Node ListItemPrefix (at 2) (at 4) (Node ListItemMarker (at 2) (at 3) (Empty)
    (Node SpaceOrTab (at 3) (at 4) (Empty) (Empty))) (Node Paragraph (at 4) (at 5)
    (Node Data (at 4) (at 5) (Empty) (Empty)) (Empty))) (Empty)))) (Empty)

abbrev pub empty_item_bytes : List ℕ
empty_item_bytes = codes "-" ++ (10 ∷ []) ++ codes "- a"

abbrev pub empty_item_text : List ℕ
empty_item_text = codes "<ul>" ++ (10 ∷ []) ++ codes "<li></li>" ++ (10 ∷ []) ++ codes "<li>a</li>"
    ++ (10 ∷ []) ++ codes "</ul>"

-- quote in a tight list: the tree, its bytes and its text
abbrev pub quote_in_a_tight_list : Forest
quote_in_a_tight_list =
    Node ListUnordered (at 0) (at 5) (Node ListItem (at 0) (at 5)
    (Node ListItemPrefix (at 0) (at 2) (Node ListItemMarker (at 0) (at 1) (Empty) (Empty))
    (Node BlockQuote (at 2) (at 4) (Node BlockQuotePrefix (at 2) (at 3) (Empty)
    (Node Paragraph (at 3) (at 4) (Node Data (at 3) (at 4) (Empty) (Empty)) (Empty)))
    (Node Paragraph (at 4) (at 5) (Node Data (at 4) (at 5) (Empty) (Empty)) (Empty)))) (Empty))
    (Empty)

abbrev pub quote_in_a_tight_list_bytes : List ℕ
quote_in_a_tight_list_bytes = codes "- >ab"

abbrev pub quote_in_a_tight_list_text : List ℕ
quote_in_a_tight_list_text =
    codes "<ul>" ++ (10 ∷ []) ++ codes "<li>" ++ (10 ∷ []) ++ codes "<blockquote>"
    ++ (10 ∷ []) ++ codes "<p>a</p>" ++ (10 ∷ []) ++ codes "</blockquote>b</li>"
    ++ (10 ∷ []) ++ codes "</ul>"

-- start number: the tree, its bytes and its text
abbrev pub start_number : Forest
start_number =
    Node ListOrdered (at 0) (at 4) (Node ListItem (at 0) (at 4)
    (Node ListItemPrefix (at 0) (at 3) (Node ListItemValue (at 0) (at 1) (Empty)
    (Node ListItemMarker (at 1) (at 2) (Empty) (Node SpaceOrTab (at 2) (at 3) (Empty) (Empty))))
    (Node Paragraph (at 3) (at 4) (Node Data (at 3) (at 4) (Empty) (Empty)) (Empty))) (Empty))
    (Empty)

abbrev pub start_number_bytes : List ℕ
start_number_bytes = codes "0. a"

abbrev pub start_number_text : List ℕ
start_number_text =
    codes "<ol start=\"0\">" ++ (10 ∷ []) ++ codes "<li>a</li>" ++ (10 ∷ []) ++ codes "</ol>"

-- task: the tree, its bytes and its text
abbrev pub task : Forest
task =
    Node ListUnordered (at 0) (at 7) (Node ListItem (at 0) (at 7)
    (Node ListItemPrefix (at 0) (at 2) (Node ListItemMarker (at 0) (at 1) (Empty) (Empty))
    (Node Paragraph (at 2) (at 7) (Node GfmTaskListItemCheck (at 2) (at 5)
    (Node GfmTaskListItemValueChecked (at 3) (at 4) (Empty) (Empty))
    (Node Data (at 5) (at 7) (Empty) (Empty))) (Empty))) (Empty)) (Empty)

abbrev pub task_bytes : List ℕ
task_bytes = codes "- [x] a"

abbrev pub task_text : List ℕ
task_text = codes "<ul>" ++ (10 ∷ [])
    ++ codes "<li><input type=\"checkbox\" disabled=\"\" checked=\"\" /> a</li>"
    ++ (10 ∷ []) ++ codes "</ul>"

-- nested tight list: the tree, its bytes and its text
abbrev pub nested_tight_list : Forest
nested_tight_list =
    Node ListUnordered (at 0) (at 16) (Node ListItem (at 0) (at 16)
    (Node ListItemPrefix (at 0) (at 2) (Node ListItemMarker (at 0) (at 1) (Empty) (Empty))
    (Node Paragraph (at 2) (at 3) (Node Data (at 2) (at 3) (Empty) (Empty))
    (Node LineEnding (at 3) (at 4) (Empty) (Node ListUnordered (at 6) (at 16)
    (Node ListItem (at 6) (at 9) (Node ListItemPrefix (at 6) (at 8)
    (Node ListItemMarker (at 6) (at 7) (Empty) (Empty))
    (Node Paragraph (at 8) (at 9) (Node Data (at 8) (at 9) (Empty) (Empty)) (Empty)))
    (Node LineEnding (at 9) (at 10) (Empty) (Node BlankLineEnding (at 10) (at 11) (Empty)
    (Node ListItem (at 13) (at 16) (Node ListItemPrefix (at 13) (at 15)
    (Node ListItemMarker (at 13) (at 14) (Empty) (Empty)) (Node Paragraph (at 15) (at 16)
    (Node Data (at 15) (at 16) (Empty) (Empty)) (Empty))) (Empty))))) (Empty))))) (Empty)) (Empty)

abbrev pub nested_tight_list_bytes : List ℕ
nested_tight_list_bytes =
    codes "- a" ++ (10 ∷ []) ++ codes "  - b" ++ (10 ∷ []) ++ (10 ∷ []) ++ codes "  - c"

abbrev pub nested_tight_list_text : List ℕ
nested_tight_list_text =
    codes "<ul>" ++ (10 ∷ []) ++ codes "<li>a" ++ (10 ∷ []) ++ codes "<ul>" ++ (10 ∷ [])
    ++ codes "<li>" ++ (10 ∷ []) ++ codes "<p>b</p>" ++ (10 ∷ []) ++ codes "</li>" ++ (10 ∷ [])
    ++ codes "<li>" ++ (10 ∷ []) ++ codes "<p>c</p>" ++ (10 ∷ []) ++ codes "</li>" ++ (10 ∷ [])
    ++ codes "</ul>" ++ (10 ∷ []) ++ codes "</li>" ++ (10 ∷ []) ++ codes "</ul>"

-- checkable task: the options, the tree, its bytes and its text
abbrev pub checkable_task_options : CompileOptions
checkable_task_options = record default_options { gfm_task_list_item_checkable = true }

abbrev pub checkable_task : Forest
checkable_task =
    Node ListUnordered (at 0) (at 7) (Node ListItem (at 0) (at 7)
    (Node ListItemPrefix (at 0) (at 2) (Node ListItemMarker (at 0) (at 1) (Empty) (Empty))
    (Node Paragraph (at 2) (at 7) (Node GfmTaskListItemCheck (at 2) (at 5)
    (Node GfmTaskListItemValueChecked (at 3) (at 4) (Empty) (Empty))
    (Node Data (at 5) (at 7) (Empty) (Empty))) (Empty))) (Empty)) (Empty)

abbrev pub checkable_task_bytes : List ℕ
checkable_task_bytes = codes "- [x] a"

abbrev pub checkable_task_text : List ℕ
checkable_task_text =
    codes "<ul>" ++ (10 ∷ []) ++ codes "<li><input type=\"checkbox\" checked=\"\" /> a</li>"
    ++ (10 ∷ []) ++ codes "</ul>"

-- item with a blank line: the tree, its bytes and its text
abbrev pub item_with_a_blank_line : Forest
item_with_a_blank_line =
    Node ListUnordered (at 0) (at 8) (Node ListItem (at 0) (at 8)
    (Node ListItemPrefix (at 0) (at 2) (Node ListItemMarker (at 0) (at 1) (Empty)
    (Node SpaceOrTab (at 1) (at 2) (Empty) (Empty))) (Node Paragraph (at 2) (at 3)
    (Node Data (at 2) (at 3) (Empty) (Empty)) (Node LineEnding (at 3) (at 4) (Empty)
    (Node BlankLineEnding (at 4) (at 5) (Empty) (Node SpaceOrTab (at 5) (at 7) (Empty)
    (Node Paragraph (at 7) (at 8) (Node Data (at 7) (at 8) (Empty) (Empty)) (Empty))))))) (Empty))
    (Empty)

abbrev pub item_with_a_blank_line_bytes : List ℕ
item_with_a_blank_line_bytes = codes "- a" ++ (10 ∷ []) ++ (10 ∷ []) ++ codes "  b"

abbrev pub item_with_a_blank_line_text : List ℕ
item_with_a_blank_line_text =
    codes "<ul>" ++ (10 ∷ []) ++ codes "<li>" ++ (10 ∷ []) ++ codes "<p>a</p>"
    ++ (10 ∷ [])
    ++ codes "<p>b</p>" ++ (10 ∷ []) ++ codes "</li>" ++ (10 ∷ []) ++ codes "</ul>"

-- an item that ends in code, whose end is on its own line: the tree, its bytes and its text
abbrev pub code_in_an_item : Forest
code_in_an_item =
    Node ListUnordered (at 0) (at 13) (Node ListItem (at 0) (at 13)
    (Node ListItemPrefix (at 0) (at 2) (Node ListItemMarker (at 0) (at 1) (Empty)
    (Node SpaceOrTab (at 1) (at 2) (Empty) (Empty))) (Node Paragraph (at 2) (at 3)
    (Node Data (at 2) (at 3) (Empty) (Empty)) (Node LineEnding (at 3) (at 4) (Empty)
    (Node CodeFenced (at 4) (at 13) (Node CodeFencedFence (at 4) (at 7) (Empty)
    (Node LineEnding (at 7) (at 8) (Empty) (Node CodeFlowChunk (at 8) (at 9) (Empty)
    (Node LineEnding (at 9) (at 10) (Empty)
    (Node CodeFencedFence (at 10) (at 13) (Empty) (Empty)))))) (Empty))))) (Empty)) (Empty)

abbrev pub code_in_an_item_bytes : List ℕ
code_in_an_item_bytes =
    codes "- a" ++ (10 ∷ []) ++ codes "```" ++ (10 ∷ []) ++ codes "b" ++ (10 ∷ [])
    ++ codes "```"

abbrev pub code_in_an_item_text : List ℕ
code_in_an_item_text =
    codes "<ul>" ++ (10 ∷ []) ++ codes "<li>a" ++ (10 ∷ []) ++ codes "<pre><code>b"
    ++ (10 ∷ [])
    ++ codes "</code></pre>" ++ (10 ∷ []) ++ codes "</li>" ++ (10 ∷ []) ++ codes "</ul>"

-- start number with zeros: the tree, its bytes and its text
abbrev pub start_number_with_zeros : Forest
start_number_with_zeros =
    Node ListOrdered (at 0) (at 6) (Node ListItem (at 0) (at 6)
    (Node ListItemPrefix (at 0) (at 5) (Node ListItemValue (at 0) (at 3) (Empty)
    (Node ListItemMarker (at 3) (at 4) (Empty) (Node SpaceOrTab (at 4) (at 5) (Empty) (Empty))))
    (Node Paragraph (at 5) (at 6) (Node Data (at 5) (at 6) (Empty) (Empty)) (Empty))) (Empty))
    (Empty)

abbrev pub start_number_with_zeros_bytes : List ℕ
start_number_with_zeros_bytes = codes "007. a"

abbrev pub start_number_with_zeros_text : List ℕ
start_number_with_zeros_text =
    codes "<ol start=\"7\">" ++ (10 ∷ []) ++ codes "<li>a</li>" ++ (10 ∷ [])
    ++ codes "</ol>"

-- a blank line after an item that ends in an empty quote, which leaves the list tight: the tree,
-- its bytes and its text
abbrev pub bare_quote_in_an_item : Forest
bare_quote_in_an_item =
    Node ListUnordered (at 0) (at 7) (Node ListItem (at 0) (at 3) (Node ListItemPrefix (at 0) (at 2)
    (Node ListItemMarker (at 0) (at 1) (Empty) (Node SpaceOrTab (at 1) (at 2) (Empty) (Empty)))
    (Node BlockQuote (at 2) (at 3) (Node BlockQuotePrefix (at 2) (at 3) (Empty) (Empty)) (Empty)))
    (Node BlankLineEnding (at 3) (at 4) (Empty)
    (Node ListItem (at 4) (at 7) (Node ListItemPrefix (at 4) (at 6)
    (Node ListItemMarker (at 4) (at 5) (Empty) (Node SpaceOrTab (at 5) (at 6) (Empty) (Empty)))
    (Node Paragraph (at 6) (at 7) (Node Data (at 6) (at 7) (Empty) (Empty)) (Empty))) (Empty))))
    (Empty)

abbrev pub bare_quote_in_an_item_bytes : List ℕ
bare_quote_in_an_item_bytes = codes "- >" ++ (10 ∷ []) ++ codes "- a"

abbrev pub bare_quote_in_an_item_text : List ℕ
bare_quote_in_an_item_text =
    codes "<ul>" ++ (10 ∷ []) ++ codes "<li>" ++ (10 ∷ []) ++ codes "<blockquote>"
    ++ (10 ∷ []) ++ codes "</blockquote>" ++ (10 ∷ []) ++ codes "</li>" ++ (10 ∷ [])
    ++ codes "<li>a</li>"
    ++ (10 ∷ []) ++ codes "</ul>"

-- the same with a space after the quote: the tree, its bytes and its text
abbrev pub bare_quote_before_a_space : Forest
bare_quote_before_a_space =
    Node ListUnordered (at 0) (at 8) (Node ListItem (at 0) (at 4) (Node ListItemPrefix (at 0) (at 2)
    (Node ListItemMarker (at 0) (at 1) (Empty) (Node SpaceOrTab (at 1) (at 2) (Empty) (Empty)))
    (Node BlockQuote (at 2) (at 3) (Node BlockQuotePrefix (at 2) (at 3) (Empty) (Empty))
    (Node SpaceOrTab (at 3) (at 4) (Empty) (Empty)))) (Node BlankLineEnding (at 4) (at 5) (Empty)
    (Node ListItem (at 5) (at 8) (Node ListItemPrefix (at 5) (at 7) (Node ListItemMarker (at 5)
    (at 6) (Empty) (Node SpaceOrTab (at 6) (at 7) (Empty) (Empty))) (Node Paragraph (at 7) (at 8)
    (Node Data (at 7) (at 8) (Empty) (Empty)) (Empty))) (Empty)))) (Empty)

abbrev pub bare_quote_before_a_space_bytes : List ℕ
bare_quote_before_a_space_bytes = codes "- > " ++ (10 ∷ []) ++ codes "- a"

abbrev pub bare_quote_before_a_space_text : List ℕ
bare_quote_before_a_space_text =
    codes "<ul>" ++ (10 ∷ []) ++ codes "<li>" ++ (10 ∷ []) ++ codes "<blockquote>" ++ (10 ∷ [])
    ++ codes "</blockquote>" ++ (10 ∷ []) ++ codes "</li>" ++ (10 ∷ []) ++ codes "<li>a</li>"
    ++ (10 ∷ []) ++ codes "</ul>"

-- a blank line after an item that ends in a quote with text, which makes the list loose: the tree,
-- its bytes and its text
abbrev pub quote_before_a_blank_line : Forest
quote_before_a_blank_line =
    Node ListUnordered (at 0) (at 8) (Node ListItem (at 0) (at 4) (Node ListItemPrefix (at 0) (at 2)
    (Node ListItemMarker (at 0) (at 1) (Empty) (Node SpaceOrTab (at 1) (at 2) (Empty) (Empty)))
    (Node BlockQuote (at 2) (at 4) (Node BlockQuotePrefix (at 2) (at 3) (Empty)
    (Node Paragraph (at 3) (at 4) (Node Data (at 3) (at 4) (Empty) (Empty)) (Empty))) (Empty)))
    (Node BlankLineEnding (at 4) (at 5) (Empty) (Node ListItem (at 5) (at 8)
    (Node ListItemPrefix (at 5) (at 7) (Node ListItemMarker (at 5) (at 6) (Empty)
    (Node SpaceOrTab (at 6) (at 7) (Empty) (Empty))) (Node Paragraph (at 7) (at 8)
    (Node Data (at 7) (at 8) (Empty) (Empty)) (Empty))) (Empty)))) (Empty)

abbrev pub quote_before_a_blank_line_bytes : List ℕ
quote_before_a_blank_line_bytes = codes "- >a" ++ (10 ∷ []) ++ codes "- b"

abbrev pub quote_before_a_blank_line_text : List ℕ
quote_before_a_blank_line_text =
    codes "<ul>" ++ (10 ∷ []) ++ codes "<li>" ++ (10 ∷ []) ++ codes "<blockquote>" ++ (10 ∷ [])
    ++ codes "<p>a</p>" ++ (10 ∷ []) ++ codes "</blockquote>" ++ (10 ∷ []) ++ codes "</li>"
    ++ (10 ∷ []) ++ codes "<li>" ++ (10 ∷ []) ++ codes "<p>b</p>" ++ (10 ∷ []) ++ codes "</li>"
    ++ (10 ∷ []) ++ codes "</ul>"
