-- The HTML Standard's fragment parsing (13.4): the nodes that `innerHTML` inserts into an element,
-- its context.
use Rattle.std.specs.Prelude.{ℕ, Bool, not, ◌++◌, List, [], ◌∷◌, if◌then◌else◌, Option, Some, None}
use Rattle.std.specs.Prelude.{option_map, codes}
use Rattle.md_text.specs.Bytes.{is_one_of}
use Rattle.md_safe.specs.Token.{Token}
use Rattle.md_safe.specs.Node.{Nodes, Empty, Text, Element, InBody}
use Rattle.md_safe.specs.Elements.{apart}
use Rattle.md_safe.specs.Built.{at, open_at}
use Rattle.md_safe.specs.Page.{Document, constructed}

-- the contexts for which the tokenizer begins in another state than the data state
abbrev pub of_other_states : List (List ℕ)
of_other_states = codes "title" ∷ codes "textarea" ∷ codes "style" ∷ codes "xmp" ∷ codes "iframe"
    ∷ codes "noembed" ∷ codes "noframes" ∷ codes "script" ∷ codes "noscript"
    ∷ codes "plaintext" ∷ []

-- the contexts that reset the insertion mode to another one than "in body" (13.2.4.1); a cell that
-- is the context doesn't
abbrev pub of_other_modes : List (List ℕ)
of_other_modes = codes "tr" ∷ codes "tbody" ∷ codes "thead" ∷ codes "tfoot" ∷ codes "caption"
    ∷ codes "colgroup" ∷ codes "table" ∷ codes "template" ∷ codes "frameset"
    ∷ codes "html" ∷ []

-- an HTML element in which a fragment is read in the data state and "in body": `div`, `li`,
-- `section`, `article`, `td`, `blockquote`, `details`, `p`, and all others except those above,
-- foreign content and the content of a `select`
abbrev pub is_flow_context : List ℕ → Bool
is_flow_context name = not (is_one_of (of_other_states ++ of_other_modes ++ apart) name)

-- the children of an element
abbrev pub children_of : Nodes → Nodes
children_of nodes =
    elim nodes [
      | Element name attributes children rest ↦ children
      | Text bytes rest ↦ Empty
      | Empty ↦ Empty
    ]

-- the children of the root, `html`, which alone is open at the beginning; other contexts aren't
-- written out
abbrev pub fragment_of : List ℕ → List Token → Option Nodes
fragment_of context tokens = if is_flow_context context then
    option_map (λ document. children_of document.root)
    (constructed None (at InBody (open_at 0 (codes "html") Empty ∷ []) [] 1) tokens)
    else None
