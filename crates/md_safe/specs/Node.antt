-- Nodes, and the state of tree construction (HTML Standard, 13.2.4). A character is a byte here.
use Rattle.std.specs.Prelude.{ℕ, Bool, true, false, if◌then◌else◌, List, [], ◌∷◌, ◌++◌}
use Rattle.md_safe.specs.Token.{TokenAttribute}

-- the children of a node in sequence: texts and elements, each with the nodes after it
pub data Nodes : Type 0 where
  Empty : Nodes
  Text : List ℕ → Nodes → Nodes
  Element : List ℕ → List TokenAttribute → Nodes → Nodes → Nodes

abbrev pub is_none : Nodes → Bool
is_none nodes = elim nodes [ Empty ↦ true | _ ↦ false ]

-- the same with an element appended
abbrev pub with_element : Nodes → List ℕ → List TokenAttribute → Nodes → Nodes
with_element Empty name attributes inner = Element name attributes inner Empty
with_element (Text bytes rest) name attributes inner =
    Text bytes (with_element rest name attributes inner)
with_element (Element other those within rest) name attributes inner =
    Element other those within (with_element rest name attributes inner)

-- the same with a character appended: it extends a text that is the last of them (13.2.6.1)
abbrev pub with_character : Nodes → ℕ → Nodes
with_character Empty byte = Text (byte ∷ []) Empty
with_character (Text bytes rest) byte =
    if is_none rest then Text (bytes ++ (byte ∷ [])) Empty
    else Text bytes (with_character rest byte)
with_character (Element name attributes inner rest) byte =
    Element name attributes inner (with_character rest byte)

-- an element on the stack of open elements: its identity, and its children so far. While it is open
-- nothing is inserted into its parent, so it is appended to its parent when it is popped
pub record Open : Type 0 where
  pub identity : ℕ
  pub name : List ℕ
  pub attributes : List TokenAttribute
  pub children : Nodes

-- an entry of the list of active formatting elements (13.2.4.3)
pub data Entry : Type 0 where
  Marker : Entry
  Formatting : (identity : ℕ) (name : List ℕ) (attributes : List TokenAttribute) → Entry

-- an insertion mode (13.2.4.1); the two modes of texts have the mode to return to
pub data Mode : Type 0 where
  Initial : Mode
  BeforeHtml : Mode
  BeforeHead : Mode
  InHead : Mode
  InText : Mode → Mode
  AfterHead : Mode
  InBody : Mode
  InTable : Mode
  InTableBody : Mode
  InRow : Mode
  InCell : Mode
  InTableText : Mode → Mode
  AfterBody : Mode
  AfterAfterBody : Mode

-- the mode "text"
abbrev pub is_text : Mode → Bool
is_text mode = elim mode [ InText original ↦ true | _ ↦ false ]

-- the insertion mode, the stack of open elements, the current node first, the list of active
-- formatting elements, the last one first, how many elements were created, the pending table
-- characters, and whether the next LF is ignored
pub record Parser : Type 0 where
  pub mode : Mode
  pub stack : List Open
  pub active : List Entry
  pub created : ℕ
  pub pending : List ℕ
  pub skips_line_feed : Bool
