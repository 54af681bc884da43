-- Ordinary and formatting elements are built as they are read, by what their children do; what is
-- known of each element of phrasing content, and where its children are inserted.
use Rattle.std.proofs.Common.{◌≡◌, inl, inr, ℕ, ◌==◌, true, false, List, ◌∷◌, refl, ◌∙◌, codes}
use Rattle.std.proofs.Common.{eq-eqb, ◌⊎◌, suc, Bool, arith}
use Rattle.std.specs.Prelude.{Some, None, bytes_eq}
use Rattle.md_text.specs.Bytes.{is_one_of}
use Rattle.md_text.specs.Html.{Attribute, Forest}
use Rattle.md_safe.specs.Token.{TokenAttribute}
use Rattle.md_safe.specs.Tokens.{seen_attributes}
use Rattle.md_safe.specs.Node.{Nodes, Open, Entry, Formatting, Mode, Empty as NoNode}
use Rattle.md_safe.specs.Elements.{special}
use Rattle.md_safe.specs.Stack.{insert, popped}
use Rattle.md_safe.specs.Formatting.{push, last_active, adopt, end_formatting}
use Rattle.md_safe.specs.InBody.{insert_formatting}
use Rattle.md_safe.specs.Built.{put, at, is_body, AreCreated, AreOpen}
use Rattle.md_safe.proofs.Lists.{Keeps, keeps-twice, room, keeps-room, keeps-created, not-active}
use Rattle.md_safe.proofs.Lists.{keeps-open, later-created, open-under, keeps-none}
use Rattle.md_safe.proofs.Steps.{here}
use Rattle.md_safe.proofs.TreeSteps.{Position, parser_of, element_of, within, reconstructs}
use Rattle.md_safe.proofs.PhrasingNames.{Each, Done, Passed, IsOrdinary, IsFormatting, full, passes}
use Rattle.md_safe.proofs.PhrasingNames.{is_free, Here}
use Rattle.std.proofs.lemmas.Bool.{or_left}
use Rattle.md_safe.specs.Contents.{elements_in, Content, Phrasing, Linked, Characters}

-- an ordinary element
pub ordinary-passes : {x : Position} {name : List ℕ} {attributes : List Attribute}
    {inner : Forest} → is_body x.mode ≡ true → AreOpen (x.node ∷ x.others) x.active →
    IsOrdinary name → Done (within x name (seen_attributes attributes) x.active) inner →
    Passed x name attributes inner
ordinary-passes {x = x} {name = name} {attributes = attributes} {inner = inner} body opened k d =
    passes x.active d.left (parser_of (within x name (seen_attributes attributes) x.active)) body
    k.names (k.starts (seen_attributes attributes) (parser_of x) ∙ reconstructs x
    (insert name (seen_attributes attributes)) opened) (λ ys. refl) d (k.ends
    (at x.mode (full x name attributes inner) d.left d.more) ∙ here _ k.names.self refl) d.keeps

-- ---- a formatting element
pub self_same : (n : ℕ) → (n == n) ≡ true
self_same n = eq-eqb n n refl

-- the end of one that is the last in the list
adopted : (mode : Mode) (node : Open) (others : List Open) (kept : List Entry) (more identity : ℕ)
    (name : List ℕ) (attributes : List TokenAttribute) (children : Nodes) →
    bytes_eq name name ≡ true → is_one_of special name ≡ false →
    end_formatting name (at mode (element_of identity name attributes children ∷ node ∷ others)
    (Formatting identity name attributes ∷ kept) more) ≡ Some (at mode
    (popped (element_of identity name attributes children ∷ node ∷ others)) kept more)
adopted mode node others kept more identity name attributes children self plain =
    rw (self_same identity, self, adopt, self_same identity, plain) refl

formatting-ends : (mode : Mode) (node : Open) (others : List Open) (active left : List Entry)
    (more identity : ℕ) (name : List ℕ) (attributes : List TokenAttribute) (children : Nodes) →
    is_one_of special name ≡ false → bytes_eq name name ≡ true → AreCreated identity active →
    Keeps (Formatting identity name attributes ∷ active) left → (kept : List Entry)
    × (end_formatting name (at mode (element_of identity name attributes children ∷ node ∷ others)
    left more) ≡ Some (at mode (popped (element_of identity name attributes children ∷ node
    ∷ others)) kept more)) × Keeps active kept
formatting-ends mode node others active left more identity name attributes children plain self made
    (inl k) = (
      left,
      rw (self, not-active _ _ (keeps-created _ _ _ made k)) refl,
      k,
    )
formatting-ends mode node others active left more identity name attributes children plain self made
    (inr k) =
    grind (arith, adopted)

-- a formatting element, with what it holds
pub formatting-passes : {x : Position} {name : List ℕ} {attributes : List Attribute}
    {inner : Forest} → is_body x.mode ≡ true → AreOpen (x.node ∷ x.others) x.active →
    AreCreated x.created x.active → IsFormatting name → (bytes_eq name (codes "a") ≡ true →
    last_active (codes "a") x.active ≡ None) → Done (within x name (seen_attributes attributes)
    (push x.created name (seen_attributes attributes) x.active)) inner →
    Passed x name attributes inner
formatting-passes {x = x} {name = name} {attributes = attributes} {inner = inner} body opened made k
    free d =
    let those : List TokenAttribute = seen_attributes attributes in
    let pushed : List Entry = push x.created name those x.active in
    let kept = keeps-room name those x.active in
    let ends = formatting-ends x.mode x.node x.others (room name those x.active) d.left d.more
    x.created name those (put NoNode inner) k.plain k.names.self (keeps-created x.created x.active
    (room name those x.active) made kept) d.keeps in
    passes pushed ends.0 (parser_of (within x name those pushed)) body k.names (k.starts those
    (parser_of x) free ∙ reconstructs x (insert_formatting name those) opened) (λ ys. refl) d
    (k.ends (at x.mode (full x name attributes inner) d.left d.more) ∙ ends.1) (keeps-twice x.active
    (room name those x.active) ends.0 kept ends.2)

-- phrasing content, also in a link or in code
abbrev pub is_inline : Content → Bool
is_inline content = elim content [ Phrasing ↦ true | Linked ↦ true | Characters ↦ true | _ ↦ false ]

-- what is known of an element that may stand there
pub record Rule (content : Content) (name : List ℕ) (held : Content) : Type 0 where
  pub kind : IsFormatting name ⊎ IsOrdinary name
  pub inline : is_inline held ≡ true
  pub frees : is_free held ≡ true → (is_free content ≡ true) × (bytes_eq name (codes "a") ≡ false)
  pub links : bytes_eq name (codes "a") ≡ true → is_free content ≡ true
  pub no_item : bytes_eq name (codes "li") ≡ false

pub rules : (content : Content) → is_inline content ≡ true →
    Each (Rule content) (elements_in false content)
rules content is = grind arith

-- where the children of a formatting element are inserted
pub here-formatting : {x : Position} {name : List ℕ} {those : List TokenAttribute}
    {content held : Content} → Rule content name held → Here x (is_free content) →
    Here (within x name those (push x.created name those x.active)) (is_free held)
here-formatting {x = x} {name = name} {those = those} rule here =
    let left : List Entry = room name those x.active in
    let kept : Keeps x.active left = keeps-room name those x.active in
    let new : Position = within x name those left in
    record {
      body = here.body;
      opened = grind (arith, or_left, self_same, open-under, keeps-open);
      made = (
        omega arith,
        later-created x.created (suc x.created) left (omega arith)
            (keeps-created x.created x.active left here.made kept),
      );
      no_link = grind (arith, keeps-none);
    }

-- and of an ordinary one, or of a block
pub here-within : {x : Position} {name : List ℕ} {those : List TokenAttribute} {free free' : Bool} →
    (free' ≡ true → free ≡ true) → Here x free → Here (within x name those x.active) free'
here-within frees here = grind (arith, open-under, later-created)
