-- The tree to build for a reading, and its place.
use Rattle.std.specs.Prelude.{◌≡◌, ℕ, Bool, true, false, not, IsTrue, ◌&&◌, ◌<◌, List, []}
use Rattle.std.specs.Prelude.{◌∷◌, ◌++◌, Some, codes}
use Rattle.std.specs.List.{list_any}
use Rattle.md_base.specs.Identifier.{is_nonempty}
use Rattle.md_text.specs.References.{is_escaped}
use Rattle.md_text.specs.Html.{Forest, Empty, Text, Void, Element, begins_with_text}
use Rattle.md_text.specs.Html.{IsReading}
use Rattle.md_safe.specs.Token.{EndOfFile}
use Rattle.md_safe.specs.Tokenizer.{IsTokenized}
use Rattle.md_safe.specs.Tokens.{seen, seen_attributes, tokens}
use Rattle.md_safe.specs.Contents.{Flow, is_contained}
use Rattle.md_safe.specs.Node.{Nodes, with_element, with_character, Open, Entry, Marker, Formatting}
use Rattle.md_safe.specs.Node.{Mode, InBody, InCell, Parser}
use Rattle.md_safe.specs.Node.{Empty as NoNode}
use Rattle.md_safe.specs.Elements.{button_scope, headings, apart}
use Rattle.md_safe.specs.Stack.{is_named, is_among, has_in_scope}
use Rattle.md_safe.specs.Formatting.{is_open}
use Rattle.md_safe.specs.InTable.{mode_for}
use Rattle.md_safe.specs.Construction.{run}

-- no text is empty or followed by a text, and all texts are escaped
abbrev pub has_whole_texts : Forest → Bool
has_whole_texts Empty = true
has_whole_texts (Text bytes rest) = is_nonempty bytes && is_escaped bytes
    && not (begins_with_text rest) && has_whole_texts rest
has_whole_texts (Void name attributes rest) = has_whole_texts rest
has_whole_texts (Element name attributes inner rest) =
    has_whole_texts inner && has_whole_texts rest

-- characters after some nodes
abbrev pub with_characters : Nodes → List ℕ → Nodes
with_characters nodes [] = nodes
with_characters nodes (byte ∷ bytes) = with_characters (with_character nodes byte) bytes

-- the elements and texts of a reading after some nodes
abbrev pub put : Nodes → Forest → Nodes
put nodes Empty = nodes
put nodes (Text bytes rest) = put (with_characters nodes (seen bytes)) rest
put nodes (Void name attributes rest) =
    put (with_element nodes name (seen_attributes attributes) NoNode) rest
put nodes (Element name attributes inner rest) =
    put (with_element nodes name (seen_attributes attributes) (put NoNode inner)) rest

-- a parser in a body or a cell, with nothing pending
abbrev pub at : Mode → List Open → List Entry → ℕ → Parser
at mode stack active created = record {
  mode = mode;
  stack = stack;
  active = active;
  created = created;
  pending = [];
  skips_line_feed = false;
}

abbrev pub is_body : Mode → Bool
is_body mode = elim mode [ InBody ↦ true | InCell ↦ true | _ ↦ false ]

-- each entry of the list was created before these many elements
abbrev pub AreCreated : ℕ → List Entry → Type 0
AreCreated created [] = Unit {0}
AreCreated created (Marker ∷ entries) = AreCreated created entries
AreCreated created (Formatting identity name attributes ∷ entries) =
    (identity < created) × AreCreated created entries

-- each formatting element after the last marker is open
abbrev pub AreOpen : List Open → List Entry → Type 0
AreOpen stack [] = Unit {0}
AreOpen stack (Marker ∷ entries) = Unit {0}
AreOpen stack (Formatting identity name attributes ∷ entries) =
    (is_open identity stack ≡ true) × AreOpen stack entries

-- no formatting element is active after the last marker
abbrev pub has_none_active : List Entry → Bool
has_none_active entries =
    elim entries [ Formatting identity name attributes ∷ others ↦ false | _ ↦ true ]

-- an element without attributes on the stack
abbrev pub open_at : ℕ → List ℕ → Nodes → Open
open_at identity name nodes =
    record { identity = identity; name = name; attributes = []; children = nodes }

-- flow content may be inserted here: in a body or a cell, with no formatting element active since
-- the last marker; the current node isn't a heading and is in no paragraph that a block would
-- close; the open elements reset the insertion mode to this mode, and none has rules of its own
pub record IsPlace (mode : Mode) (node : Open) (others : List Open) (active : List Entry)
    (created : ℕ) : Type 0 where
  pub body : is_body mode ≡ true
  pub none_active : has_none_active active ≡ true
  pub made : AreCreated created active
  pub no_paragraph : has_in_scope button_scope (is_named (codes "p")) (node ∷ others) ≡ false
  pub no_heading : is_among headings node ≡ false
  pub leads_back : mode_for (node ∷ others) ≡ mode
  pub none_apart : list_any (is_among apart) (node ∷ others) ≡ false

-- the tokens of a reading append its nodes to those of the current node, and leave all else
-- unchanged: the mode, the other open elements and the list; only the count of created elements
-- grows
abbrev pub Builds : Mode → Open → List Open → List Entry → ℕ → Forest → Type 0
Builds mode node others active created forest =
    (more : ℕ) × (run (at mode (node ∷ others) active created) (tokens forest)
    ≡ Some (at mode (record node { children = put node.children forest } ∷ others) active more))

-- a text has exactly one reading, which fulfils the content model, with no link in a link; the
-- tokenizer emits its tokens, and from these tree construction builds the reading's own tree,
-- wherever flow content may be inserted
pub record IsBuiltAsRead (text : List ℕ) : Type 0 where
  pub forest : Forest
  pub reading : IsReading text forest
  pub only : (other : Forest) → IsReading text other → other ≡ forest
  pub contained : IsTrue (is_contained false Flow forest)
  pub tokenized : IsTokenized text (tokens forest ++ (EndOfFile ∷ []))
  pub builds :
      (mode : Mode) (node : Open) (others : List Open) (active : List Entry) (created : ℕ) →
      IsPlace mode node others active created → Builds mode node others active created forest
