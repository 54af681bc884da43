-- Blocks and preformatted code are built as they are read, by what their children do; and what is
-- known of each element that stands in flow content or in a list.
use Rattle.std.proofs.Common.{◌≡◌, ℕ, true, false, List, ◌∷◌, ◌++◌, refl, codes, ◌⊎◌, Bool, arith}
use Rattle.std.specs.Prelude.{Some, bytes_eq}
use Rattle.md_text.specs.Html.{Attribute, Forest, Empty}
use Rattle.md_safe.specs.Token.{Token, EndTag, TokenAttribute}
use Rattle.md_safe.specs.Tokens.{seen_attributes, tokens}
use Rattle.md_safe.specs.Contents.{Preformatted, is_contained, Content, Flow, Phrasing, Items}
use Rattle.md_safe.specs.Contents.{Parts, elements_in}
use Rattle.md_safe.specs.Node.{Nodes, Open, Parser, Empty as NoNode}
use Rattle.md_safe.specs.Elements.{button_scope, headings}
use Rattle.md_safe.specs.Stack.{is_named, is_among, has_in_scope, insert, popped}
use Rattle.md_safe.specs.InBody.{close_p, has_item, start_in_body, end_in_body}
use Rattle.md_safe.specs.Construction.{run}
use Rattle.md_safe.specs.Built.{put, at, is_body}
use Rattle.md_safe.proofs.Steps.{past}
use Rattle.md_safe.proofs.TreeSteps.{Position, parser_of, with_children, element_of, within}
use Rattle.md_safe.proofs.PhrasingNames.{Done, Passed, IsOuter, passes, Each}
use Rattle.md_text.specs.Bytes.{is_one_of}
use Rattle.md_safe.specs.InTable.{mode_for}
use Rattle.md_safe.proofs.PhrasingRules.{Rule}

-- ---- blocks

-- no paragraph is open
abbrev pub HasNoParagraph : List Open → Type 0
HasNoParagraph stack = has_in_scope button_scope (is_named (codes "p")) stack ≡ false

-- a block's end tag
abbrev pub EndsBlock : List ℕ → Type 0
EndsBlock name =
    (identity : ℕ) (attributes : List TokenAttribute) (children : Nodes) (x : Position) →
    end_in_body name (at x.mode
    (element_of identity name attributes children ∷ x.node ∷ x.others) x.active x.created)
    ≡ Some (at x.mode (popped (element_of identity name attributes children ∷ x.node ∷ x.others))
    x.active x.created)

abbrev pub KeepsParagraph : List ℕ → Type 0
KeepsParagraph name =
    (identity : ℕ) (attributes : List TokenAttribute) (children : Nodes) (stack : List Open) →
    bytes_eq name (codes "p") ≡ false → HasNoParagraph stack →
    HasNoParagraph (element_of identity name attributes children ∷ stack)

-- a block's tags, where no paragraph, no heading and no item is to be closed
pub record IsBlock (name : List ℕ) : Type 0 where
  pub names : IsOuter name
  pub starts : (attributes : List TokenAttribute) (x : Position) →
      HasNoParagraph (x.node ∷ x.others) → is_among headings x.node ≡ false →
      (bytes_eq name (codes "li") ≡ true → has_item (x.node ∷ x.others) ≡ false) →
      start_in_body name attributes (parser_of x) ≡ Some (insert name attributes (parser_of x))
  pub ends : EndsBlock name
  pub keeps_p : KeepsParagraph name

-- nothing is closed before a block
pub unclosed : (stack : List Open) → HasNoParagraph stack → close_p stack ≡ stack
unclosed stack none = past _ none refl

-- a block with what it holds, by what its children do
pub block-passes : {x : Position} {name : List ℕ} {attributes : List Attribute} {inner : Forest} →
    is_body x.mode ≡ true → IsBlock name → HasNoParagraph (x.node ∷ x.others) →
    is_among headings x.node ≡ false → (bytes_eq name (codes "li") ≡ true → has_item
    (x.node ∷ x.others) ≡ false) → Done (within x name (seen_attributes attributes) x.active)
    inner → Passed x name attributes inner
block-passes {x = x} {name = name} {attributes = attributes} {inner = inner} body k none calm item
    d =
    let those : List TokenAttribute = seen_attributes attributes in
    passes _ _ _ body k.names (k.starts those x none calm item) (λ ys. refl) d (k.ends x.created
    those (put NoNode inner) (with_children x x.node.children d.left d.more)) d.keeps

-- ---- preformatted code

-- what is preformatted begins with a tag, so that no line feed is ignored
pre-begins : (inner : Forest) (p : Parser) (ys : List Token) →
    is_contained false Preformatted inner ≡ true →
    run (record p { skips_line_feed = true }) (tokens inner ++ (EndTag (codes "pre") ∷ ys))
    ≡ run (record p { skips_line_feed = false }) (tokens inner ++ (EndTag (codes "pre") ∷ ys))
pre-begins Empty p ys c = refl
pre-begins inner p ys c = grind arith

pub pre-passes : {x : Position} {attributes : List Attribute} {inner : Forest} →
    is_body x.mode ≡ true → HasNoParagraph (x.node ∷ x.others) →
    is_contained false Preformatted inner ≡ true → Done (within x (codes "pre")
    (seen_attributes attributes) x.active) inner → Passed x (codes "pre") attributes inner
pre-passes {x = x} {attributes = attributes} {inner = inner} body none c d =
    let new : Parser = parser_of (within x (codes "pre") (seen_attributes attributes) x.active) in
    passes x.active d.left (record new { skips_line_feed = true }) body (grind arith)
    (grind (arith, unclosed)) (λ ys. pre-begins inner new ys c) d refl d.keeps

-- it decides no insertion mode
abbrev pub KeepsMode : List ℕ → Type 0
KeepsMode name =
    (identity : ℕ) (attributes : List TokenAttribute) (children : Nodes) (stack : List Open) →
    mode_for (element_of identity name attributes children ∷ stack) ≡ mode_for stack

-- a block that holds flow content or a list's items
pub record Holder (name : List ℕ) : Type 0 where
  pub block : IsBlock name
  pub other : bytes_eq name (codes "p") ≡ false
  pub calm : is_one_of headings name ≡ false
  pub passes : KeepsMode name

-- in which no item is open to its items
abbrev pub EndsItems : List ℕ → Type 0
EndsItems name =
    (identity : ℕ) (attributes : List TokenAttribute) (children : Nodes) (stack : List Open) →
    has_item (element_of identity name attributes children ∷ stack) ≡ false

-- the content of blocks, lists and preformatted code
abbrev pub is_flowing : Content → Bool
is_flowing content = elim content [ Flow ↦ true | Items ↦ true | Preformatted ↦ true | _ ↦ false ]

abbrev pub is_items : Content → Bool
is_items content = elim content [ Items ↦ true | _ ↦ false ]

-- what is known of an element there: it is a span, holds phrasing content, holds flow content,
-- holds items, is a table or is preformatted
abbrev pub Kind : Content → List ℕ → Content → Type 0
Kind content name held = Rule content name held
    ⊎ ((IsBlock name × (held ≡ Phrasing))
    ⊎ ((Holder name × (held ≡ Flow))
    ⊎ ((Holder name × (held ≡ Items) × EndsItems name) ⊎ (((name ≡ codes "table") × (held ≡ Parts))
    ⊎ ((name ≡ codes "pre") × (held ≡ Preformatted))))))

-- and an item is in a list
pub record Ruled (content : Content) (name : List ℕ) (held : Content) : Type 0 where
  pub kind : Kind content name held
  pub item : bytes_eq name (codes "li") ≡ true → is_items content ≡ true

pub flowing-rules : (content : Content) → is_flowing content ≡ true →
    Each (Ruled content) (elements_in false content)
flowing-rules content is = grind arith
