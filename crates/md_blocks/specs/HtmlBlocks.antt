-- Which texts begin a block of HTML, and which lines end one, as CommonMark defines the seven kinds
-- of these blocks.
use Rattle.std.specs.Prelude.{ℕ, Bool, List, Option, [], ◌∷◌, true, false, Some, None, ◌==◌, ◌&&◌}
use Rattle.std.specs.Prelude.{◌||◌, not, nat_eq, length, take, drop, get_or, codes, if◌then◌else◌}
use Rattle.std.specs.List.{list_any, prefix_len, starts_with}
use Rattle.std.specs.Char.{is_ascii_alphabetic, is_ascii_alphanumeric}
use Rattle.std.specs.Str.{str_eq_ignore_ascii_case}
use Rattle.md_lines.specs.Lines.{is_blank}
use Rattle.md_lines.specs.Tags.{after_tag}
use Rattle.md_blocks.specs.Marks.{is_blank_text}
use Rattle.md_blocks.specs.Leaves.{without_first}
use Rattle.md_blocks.specs.declared.html.HtmlKind.{HtmlKind}
use Rattle.md_blocks.specs.declared.html.HtmlKind.TheVariants.{Raw, Comment, Instruction}
use Rattle.md_blocks.specs.declared.html.HtmlKind.TheVariants.{Declaration, Data, Block, Tag}

-- whether a text begins with a word, in any case
abbrev pub begins_with : List ℕ → List ℕ → Bool
begins_with text word = str_eq_ignore_ascii_case (take (length word) text) word

-- the names of tags whose block ends at a closing tag of any of them
abbrev pub raw_names : List (List ℕ)
raw_names = codes "script" ∷ codes "pre" ∷ codes "style" ∷ codes "textarea" ∷ []

-- the closing tags that end a block of the first kind
abbrev pub raw_ends : List (List ℕ)
raw_ends = codes "</script>" ∷ codes "</pre>" ∷ codes "</style>" ∷ codes "</textarea>" ∷ []

-- the names of tags whose block ends at a blank line, by their length
abbrev pub block_names : List (List (List ℕ))
block_names =
    []
    ∷ (codes "p" ∷ [])
    ∷ (codes "dd" ∷ codes "dl" ∷ codes "dt" ∷ codes "h1" ∷ codes "h2" ∷ codes "h3" ∷ codes "h4" ∷
    codes "h5" ∷ codes "h6" ∷ codes "hr" ∷ codes "li" ∷ codes "ol" ∷ codes "td" ∷ codes "th" ∷
    codes "tr" ∷ codes "ul" ∷ [])
    ∷ (codes "col" ∷ codes "dir" ∷ codes "div" ∷ codes "nav" ∷ [])
    ∷ (codes "base" ∷ codes "body" ∷ codes "form" ∷ codes "head" ∷ codes "html" ∷ codes "link" ∷
    codes "main" ∷ codes "menu" ∷ [])
    ∷ (codes "aside" ∷ codes "frame" ∷ codes "param" ∷ codes "table" ∷ codes "tbody" ∷
    codes "tfoot" ∷ codes "thead" ∷ codes "title" ∷ codes "track" ∷ [])
    ∷ (codes "center" ∷ codes "dialog" ∷ codes "figure" ∷ codes "footer" ∷ codes "header" ∷
    codes "iframe" ∷ codes "legend" ∷ codes "option" ∷ codes "source" ∷ [])
    ∷ (codes "address" ∷ codes "article" ∷ codes "caption" ∷ codes "details" ∷ codes "section" ∷
    codes "summary" ∷ [])
    ∷ (codes "basefont" ∷ codes "colgroup" ∷ codes "fieldset" ∷ codes "frameset" ∷
    codes "menuitem" ∷ codes "noframes" ∷ codes "optgroup" ∷ [])
    ∷ []
    ∷ (codes "blockquote" ∷ codes "figcaption" ∷ [])
    ∷ []

-- whether a tag's name is one of those whose block ends at a closing tag, in any case
abbrev pub is_raw_name : List ℕ → Bool
is_raw_name name = list_any (str_eq_ignore_ascii_case name) raw_names

-- whether a tag's name is one of those whose block ends at a blank line, in any case
abbrev pub is_block_name : List ℕ → Bool
is_block_name name =
    list_any (str_eq_ignore_ascii_case name) (get_or block_names (length name) [])

-- how many letters and digits begin a text
abbrev pub name_length : List ℕ → ℕ
name_length text = prefix_len is_ascii_alphanumeric text

-- whether a text begins with a space, a tab or `>`, or is empty
abbrev pub ends_name : List ℕ → Bool
ends_name text = elim text [ [] ↦ true | byte ∷ _ ↦ is_blank byte || byte == 62 ]

-- the kind that a tag begins: whether it closes, its name, and what follows that
abbrev pub named_kind : Bool → List ℕ → List ℕ → Option HtmlKind
named_kind is_closing name after =
    if ends_name after && (not is_closing && is_raw_name name) then Some Raw
    else if (ends_name after || starts_with nat_eq after (codes "/>")) && is_block_name name
    then Some Block
    else None

-- the kind of the block that a tag begins, whose name follows `<` or `</`
abbrev pub tag_kind : List ℕ → Option HtmlKind
tag_kind text =
    let inside = without_first 47 (drop 1 text) in
    named_kind (starts_with nat_eq text (codes "</")) (take (name_length inside) inside)
    (drop (name_length inside) inside)

-- the kind that a text at a `<` begins; `None` if it is text, or a tag of another name
abbrev pub html_kind : List ℕ → Option HtmlKind
html_kind text =
    if starts_with nat_eq text (codes "<!--") then Some Comment
    else if starts_with nat_eq text (codes "<?") then Some Instruction
    else if starts_with nat_eq text (codes "<![CDATA[") then Some Data
    else if starts_with nat_eq text (codes "<!")
    then (if is_ascii_alphabetic (get_or text 2 0) then Some Declaration else None)
    else tag_kind text

-- whether a text is one tag (6.10), and then only spaces and tabs
abbrev pub is_tag_alone : List ℕ → Bool
is_tag_alone text = elim (after_tag (text ∷ [])) [
  | None ↦ false
  | Some rest ↦ is_blank_text (get_or rest 0 [])
]

-- whether a text begins with what ends a block of a kind; a blank line ends the last two
abbrev pub is_end : HtmlKind → List ℕ → Bool
is_end kind text = elim kind [
  | Raw ↦ list_any (begins_with text) raw_ends
  | Comment ↦ starts_with nat_eq text (codes "-->")
  | Instruction ↦ starts_with nat_eq text (codes "?>")
  | Declaration ↦ starts_with nat_eq text (codes ">")
  | Data ↦ starts_with nat_eq text (codes "]]>")
  | Block ↦ false
  | Tag ↦ false
]

-- whether a blank line ends a block of a kind
abbrev pub ends_at_blank_line : HtmlKind → Bool
ends_at_blank_line kind = elim kind [ Block ↦ true | Tag ↦ true | _ ↦ false ]

-- whether a test passes for some rest of a text
abbrev pub somewhere : (List ℕ → Bool) → List ℕ → Bool
somewhere test [] = test []
somewhere test (byte ∷ rest) = test (byte ∷ rest) || somewhere test rest

-- whether a line ends a block of a kind: it has what ends one
abbrev pub is_html_end : HtmlKind → List ℕ → Bool
is_html_end kind line = somewhere (is_end kind) line

-- the first byte of what ends a block of a kind
abbrev pub first_of_end : HtmlKind → Option ℕ
first_of_end kind = elim kind [
  | Raw ↦ Some 60
  | Comment ↦ Some 45
  | Instruction ↦ Some 63
  | Declaration ↦ Some 62
  | Data ↦ Some 93
  | Block ↦ None
  | Tag ↦ None
]
