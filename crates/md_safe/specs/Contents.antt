-- The content model of the HTML that is written. It doesn't refer to events.
use Rattle.std.specs.Prelude.{◌≡◌, ℕ, Bool, true, false, ◌&&◌, ◌||◌, ◌==◌, IsTrue, if◌then◌else◌}
use Rattle.std.specs.Prelude.{List, [], ◌∷◌, ◌++◌, Option, map, find, option_map, bytes_eq, codes}
use Rattle.std.specs.Option.{option_map_or}
use Rattle.std.specs.List.{list_all}
use Rattle.md_text.specs.Bytes.{is_one_of}
use Rattle.md_text.specs.Html.{Forest, Empty, Text, Void, Element, IsReading}

-- the kinds of content: blocks, spans and texts; spans and texts; these without links; the items of
-- a list; the parts of a table, its rows and its cells; preformatted code; only characters
pub data Content : Type 0 where
  Flow : Content
  Phrasing : Content
  Linked : Content
  Items : Content
  Parts : Content
  Rows : Content
  Cells : Content
  Preformatted : Content
  Characters : Content

-- the elements of spans except links, each with its content, if spans contain this
abbrev pub spans_of : Content → List (List ℕ × Content)
spans_of held = (codes "code", Characters)
    ∷ map (λ name. (name, held)) (codes "em" ∷ codes "strong" ∷ codes "del" ∷ codes "sup"
    ∷ codes "b" ∷ codes "i" ∷ codes "u" ∷ codes "s" ∷ codes "small" ∷ codes "sub" ∷ codes "span"
    ∷ codes "kbd" ∷ codes "samp" ∷ codes "var" ∷ codes "q" ∷ codes "cite" ∷ codes "abbr"
    ∷ codes "dfn" ∷ codes "ins" ∷ codes "mark" ∷ [])

-- those of all spans: links may contain links if `nested`
abbrev pub span_elements : Bool → List (List ℕ × Content)
span_elements nested = (codes "a", if nested then Phrasing else Linked) ∷ spans_of Phrasing

-- those of blocks
abbrev pub block_elements : List (List ℕ × Content)
block_elements =
    (codes "ul", Items) ∷ (codes "ol", Items) ∷ (codes "table", Parts) ∷ (codes "pre", Preformatted)
    ∷ (codes "blockquote", Flow) ∷ (codes "section", Flow) ∷ (codes "div", Flow)
    ∷ (codes "details", Flow) ∷ (codes "summary", Phrasing) ∷ (codes "figure", Flow)
    ∷ (codes "figcaption", Flow) ∷ map (λ name. (name, Phrasing))
    (codes "p" ∷ codes "h1" ∷ codes "h2" ∷ codes "h3" ∷ codes "h4" ∷ codes "h5" ∷ codes "h6" ∷ [])

-- the elements that a content allows
abbrev pub elements_in : Bool → Content → List (List ℕ × Content)
elements_in nested Flow = span_elements nested ++ block_elements
elements_in nested Phrasing = span_elements nested
elements_in nested Linked = spans_of Linked
elements_in nested Items = (codes "li", Flow) ∷ []
elements_in nested Parts =
    (codes "thead", Rows) ∷ (codes "tbody", Rows) ∷ (codes "tfoot", Rows) ∷ []
elements_in nested Rows = (codes "tr", Cells) ∷ []
elements_in nested Cells = (codes "th", Phrasing) ∷ (codes "td", Phrasing) ∷ []
elements_in nested Preformatted = (codes "code", Characters) ∷ []
elements_in nested Characters = []

-- the content of an element there, if it is allowed
abbrev pub held_in : Bool → Content → List ℕ → Option Content
held_in nested content name =
    option_map (λ element. element.1)
    (find (λ element. bytes_eq element.0 name) (elements_in nested content))

-- the void tags that a content allows
abbrev pub voids_in : Content → List (List ℕ)
voids_in Flow = codes "hr" ∷ codes "br" ∷ codes "img" ∷ codes "input" ∷ codes "wbr" ∷ []
voids_in Phrasing = codes "br" ∷ codes "img" ∷ codes "input" ∷ codes "wbr" ∷ []
voids_in Linked = codes "br" ∷ codes "img" ∷ codes "input" ∷ codes "wbr" ∷ []
voids_in _ = []

-- white space of HTML: tab, LF, FF, CR and space
abbrev pub is_space : ℕ → Bool
is_space byte = (byte == 9) || (byte == 10) || (byte == 12) || (byte == 13) || (byte == 32)

-- a content allows a text: in lists and tables only white space, directly in `pre` none
abbrev pub may_say : Content → List ℕ → Bool
may_say Flow text = true
may_say Phrasing text = true
may_say Linked text = true
may_say Characters text = true
may_say Preformatted text = false
may_say _ text = list_all is_space text

-- the content model allows each node of a forest at its place, with the forest itself as this
-- content
abbrev pub is_contained : Bool → Content → Forest → Bool
is_contained nested content Empty = true
is_contained nested content (Text bytes rest) =
    may_say content bytes && is_contained nested content rest
is_contained nested content (Void name attributes rest) =
    is_one_of (voids_in content) name && is_contained nested content rest
is_contained nested content (Element name attributes inner rest) =
    option_map_or (λ held. is_contained nested held inner) (held_in nested content name) false
    && is_contained nested content rest

-- a text has exactly one reading, and the content model allows each node of it, as flow content
pub record IsContainedAs (nested : Bool) (text : List ℕ) : Type 0 where
  pub forest : Forest
  pub reading : IsReading text forest
  pub contained : IsTrue (is_contained nested Flow forest)
  pub only : (other : Forest) → IsReading text other → other ≡ forest

-- the same, if links may contain links
abbrev pub IsContained : List ℕ → Type 0
IsContained text = IsContainedAs true text

-- the same, without a link in a link
abbrev pub IsUnnested : List ℕ → Type 0
IsUnnested text = IsContainedAs false text
