-- The grammar of safe HTML: what the compiler writes, and what authors may write besides. It doesn't
-- refer to events.
use Rattle.std.specs.Str.{bytes_eq}
use Rattle.md_base.specs.Identifier.{is_nonempty}
use Rattle.std.specs.Prelude.{◌≡◌, ℕ, Bool, true, false, not, IsTrue, ◌&&◌, List, [], ◌∷◌, ◌++◌}
use Rattle.std.specs.Prelude.{map, codes}
use Rattle.std.specs.List.{list_any, list_all}
use Rattle.md_text.specs.Bytes.{is_one_of}
use Rattle.md_text.specs.References.{is_escaped}

-- an attribute: its name, and its value as it is written
pub record Attribute : Type 0 where
  pub name : List ℕ
  pub value : List ℕ

-- texts, void tags and elements in order: each has the nodes that follow it, and an element has its
-- content
pub data Forest : Type 0 where
  Empty : Forest
  Text : List ℕ → Forest → Forest
  Void : List ℕ → List Attribute → Forest → Forest
  Element : List ℕ → List Attribute → Forest → Forest → Forest

-- a space, the name, `="`, the value and `"`
abbrev pub written_attributes : List Attribute → List ℕ
written_attributes [] = []
written_attributes (a ∷ rest) =
    32 ∷ (a.name ++ (61 ∷ 34 ∷ (a.value ++ (34 ∷ written_attributes rest))))

-- a void tag is `<`, name, attributes, ` />`; an element is `<`, name, attributes, `>`, its
-- content, `</`, name, `>`
abbrev pub written : Forest → List ℕ
written Empty = []
written (Text bytes rest) = bytes ++ written rest
written (Void name attributes rest) =
    60 ∷ (name ++ (written_attributes attributes ++ (32 ∷ 47 ∷ 62 ∷ written rest)))
written (Element name attributes inner rest) = 60 ∷ (name ++ (written_attributes attributes
    ++ (62 ∷ (written inner ++ (60 ∷ 47 ∷ (name ++ (62 ∷ written rest)))))))

-- `<`, name, attributes, `>`
abbrev pub opening_tag : List ℕ → List Attribute → List ℕ
opening_tag name attributes = 60 ∷ (name ++ (written_attributes attributes ++ (62 ∷ [])))

-- `</`, name, `>`
abbrev pub closing_tag : List ℕ → List ℕ
closing_tag name = 60 ∷ 47 ∷ (name ++ (62 ∷ []))

-- the attributes that any element of authors may have
abbrev pub shared : List (List ℕ)
shared = codes "id" ∷ codes "title" ∷ codes "lang" ∷ codes "dir" ∷ []

-- those of parts of tables and of their rows, and besides these those of cells
abbrev pub of_rows : List (List ℕ)
of_rows = codes "align" ∷ codes "valign" ∷ shared

abbrev pub of_cells : List (List ℕ)
of_cells =
    codes "colspan" ∷ codes "rowspan" ∷ codes "width" ∷ codes "height" ∷ of_rows

-- the elements, each with the names of the attributes that it may have
abbrev pub elements : List (List ℕ × List (List ℕ))
elements =
    map (λ name. (name, shared)) (codes "blockquote" ∷ codes "pre" ∷ codes "ul" ∷ codes "em"
    ∷ codes "strong" ∷ codes "del" ∷ codes "sup" ∷ codes "b" ∷ codes "i" ∷ codes "u" ∷ codes "s"
    ∷ codes "small" ∷ codes "sub" ∷ codes "span" ∷ codes "kbd" ∷ codes "samp" ∷ codes "var"
    ∷ codes "q" ∷ codes "cite" ∷ codes "abbr" ∷ codes "dfn" ∷ codes "ins" ∷ codes "mark"
    ∷ codes "summary" ∷ codes "figure" ∷ codes "figcaption" ∷ [])
    ++ map (λ name. (name, codes "align" ∷ shared)) (codes "p" ∷ codes "div" ∷ codes "h1"
    ∷ codes "h3" ∷ codes "h4" ∷ codes "h5" ∷ codes "h6" ∷ [])
    ++ map (λ name. (name, of_rows)) (codes "thead" ∷ codes "tbody" ∷ codes "tfoot" ∷ codes "tr"
    ∷ [])
    ++ (codes "th", of_cells) ∷ (codes "td", of_cells)
    ∷ (codes "table", codes "align" ∷ codes "width" ∷ shared)
    ∷ (codes "code", codes "class" ∷ shared) ∷ (codes "ol", codes "start" ∷ shared)
    ∷ (codes "li", shared) ∷ (codes "h2", codes "class" ∷ codes "align" ∷ shared)
    ∷ (codes "details", codes "open" ∷ shared)
    ∷ (codes "section", codes "data-footnotes" ∷ codes "class" ∷ [])
    ∷ (
      codes "a",
      codes "href" ∷ codes "class" ∷ codes "data-footnote-ref" ∷ codes "data-footnote-backref"
          ∷ codes "aria-describedby" ∷ codes "aria-label" ∷ codes "rel" ∷ codes "name" ∷ shared,
    ) ∷ []

-- the void tags, likewise
abbrev pub void_tags : List (List ℕ × List (List ℕ))
void_tags = (codes "br", shared) ∷ (codes "hr", shared) ∷ (codes "wbr", shared)
    ∷ (
      codes "img",
      codes "src" ∷ codes "alt" ∷ codes "width" ∷ codes "height" ∷ codes "align" ∷ shared,
    ) ∷ (codes "input", codes "type" ∷ codes "disabled" ∷ codes "checked" ∷ []) ∷ []

-- the elements that the compiler writes, each with the attributes that it writes
abbrev pub printed_elements : List (List ℕ × List (List ℕ))
printed_elements =
    map (λ name. (name, [])) (codes "blockquote" ∷ codes "pre" ∷ codes "p" ∷ codes "ul" ∷ codes "em"
    ∷ codes "strong" ∷ codes "del" ∷ codes "sup" ∷ codes "table" ∷ codes "thead" ∷ codes "tbody"
    ∷ codes "tr"
    ∷ codes "h1" ∷ codes "h3" ∷ codes "h4" ∷ codes "h5" ∷ codes "h6" ∷ [])
    ++ (codes "code", codes "class" ∷ []) ∷ (codes "ol", codes "start" ∷ [])
    ∷ (codes "li", codes "id" ∷ []) ∷ (codes "h2", codes "id" ∷ codes "class" ∷ [])
    ∷ (codes "th", codes "align" ∷ []) ∷ (codes "td", codes "align" ∷ [])
    ∷ (codes "section", codes "data-footnotes" ∷ codes "class" ∷ [])
    ∷ (
      codes "a",
      codes "href" ∷ codes "title" ∷ codes "id" ∷ codes "class" ∷ codes "data-footnote-ref"
          ∷ codes "data-footnote-backref" ∷ codes "aria-describedby" ∷ codes "aria-label" ∷ [],
    ) ∷ []

-- the void tags that it writes, likewise
abbrev pub printed_void_tags : List (List ℕ × List (List ℕ))
printed_void_tags = (codes "br", []) ∷ (codes "hr", [])
    ∷ (codes "img", codes "src" ∷ codes "alt" ∷ codes "title" ∷ [])
    ∷ (codes "input", codes "type" ∷ codes "disabled" ∷ codes "checked" ∷ []) ∷ []

-- each has a listed name that no later one has, and an escaped value
abbrev pub are_attributes : List (List ℕ) → List Attribute → Bool
are_attributes listed [] = true
are_attributes listed (a ∷ rest) = is_one_of listed a.name && is_escaped a.value
    && not (list_any (λ later. bytes_eq a.name later.name) rest) && are_attributes listed rest

-- a tag in the table, with attributes that the table lists for it
abbrev pub is_tag : List (List ℕ × List (List ℕ)) → List ℕ → List Attribute → Bool
is_tag rules name attributes =
    list_any (λ rule. bytes_eq rule.0 name && are_attributes rule.1 attributes) rules

-- begins with a text
abbrev pub begins_with_text : Forest → Bool
begins_with_text forest = elim forest [ Text bytes rest ↦ true | _ ↦ false ]

-- no text is empty or followed by a text, all texts and values are escaped, and all tags are in the
-- tables
abbrev pub is_forest : Forest → Bool
is_forest Empty = true
is_forest (Text bytes rest) =
    is_nonempty bytes && is_escaped bytes && not (begins_with_text rest) && is_forest rest
is_forest (Void name attributes rest) = is_tag void_tags name attributes && is_forest rest
is_forest (Element name attributes inner rest) =
    is_tag elements name attributes && is_forest inner && is_forest rest

-- all tags are in the tables of those that the compiler writes
abbrev pub is_printed : Forest → Bool
is_printed Empty = true
is_printed (Text bytes rest) = is_printed rest
is_printed (Void name attributes rest) =
    is_tag printed_void_tags name attributes && is_printed rest
is_printed (Element name attributes inner rest) =
    is_tag printed_elements name attributes && is_printed inner && is_printed rest

-- each attribute of each tag passes the test
abbrev pub all_attributes : (Attribute → Bool) → Forest → Bool
all_attributes p Empty = true
all_attributes p (Text bytes rest) = all_attributes p rest
all_attributes p (Void name attributes rest) = list_all p attributes && all_attributes p rest
all_attributes p (Element name attributes children rest) =
    list_all p attributes && all_attributes p children && all_attributes p rest

-- the forest is a reading of the text: it fulfils the grammar, and is written as the text
pub record IsReading (text : List ℕ) (forest : Forest) : Type 0 where
  pub in_grammar : IsTrue (is_forest forest)
  pub written_so : written forest ≡ text

-- a text has exactly one reading, and in it each attribute passes the test
pub record HasOneReadingWith (p : Attribute → Bool) (text : List ℕ) : Type 0 where
  pub forest : Forest
  pub reading : IsReading text forest
  pub passes : IsTrue (all_attributes p forest)
  pub only : (other : Forest) → IsReading text other → other ≡ forest

-- a text has a reading of tags that the compiler writes, in which each attribute passes the test
pub record HasReadingWith (p : Attribute → Bool) (text : List ℕ) : Type 0 where
  pub forest : Forest
  pub reading : IsReading text forest
  pub printed : IsTrue (is_printed forest)
  pub passes : IsTrue (all_attributes p forest)

-- the tags of each reading of a text are of those that the compiler writes
abbrev pub IsPrinted : List ℕ → Type 0
IsPrinted text = (forest : Forest) → IsReading text forest → IsTrue (is_printed forest)

-- any attribute
abbrev pub any_attribute : Attribute → Bool
any_attribute a = true

-- a text has a reading
pub record HasReading (text : List ℕ) : Type 0 where
  pub forest : Forest
  pub reading : IsReading text forest
