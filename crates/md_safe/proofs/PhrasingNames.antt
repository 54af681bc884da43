-- Where phrasing content may be inserted, what builds an element there, and which elements there
-- are.
use Rattle.std.proofs.Common.{◌≡◌, ℕ, ◌≤◌, suc, Bool, true, false, List, [], ◌∷◌, ◌++◌, ◌∙◌, codes}
use Rattle.std.proofs.Common.{arith}
use Rattle.std.specs.Prelude.{Some, None, find, option_map, bytes_eq}
use Rattle.std.specs.Option.{option_map_or}
use Rattle.std.proofs.lemmas.Slice.Eq.{bytes_eq-Decides}
use Rattle.md_base.proofs.Lies.{lie}
use Rattle.md_text.specs.Bytes.{is_one_of}
use Rattle.md_text.specs.Html.{Attribute, Forest}
use Rattle.md_safe.proofs.Cases.{either}
use Rattle.md_safe.specs.Token.{Token, StartTag, EndTag, TokenAttribute}
use Rattle.md_safe.specs.Tokens.{seen_attributes, tokens}
use Rattle.md_safe.specs.Contents.{Content, Flow, Phrasing, is_contained}
use Rattle.md_safe.specs.Node.{Open, Entry, Parser, with_element, Empty as NoNode}
use Rattle.md_safe.specs.Elements.{special, parts, cells, sections}
use Rattle.md_safe.specs.Stack.{insert, popped}
use Rattle.md_safe.specs.Formatting.{last_active, end_other, end_formatting}
use Rattle.md_safe.specs.InBody.{reconstructed, insert_formatting, insert_void, start_in_body}
use Rattle.md_safe.specs.InBody.{end_in_body}
use Rattle.md_safe.specs.Construction.{run, step}
use Rattle.md_safe.specs.Built.{put, at, is_body, AreCreated, AreOpen}
use Rattle.md_safe.proofs.Lists.{Keeps}
use Rattle.md_safe.proofs.TreeSteps.{Position, parser_of, with_children, element_of, within, after}
use Rattle.md_safe.proofs.TreeSteps.{after-one, start-in-body, reconstructs}
use Rattle.std.proofs.lemmas.Bool.{cond_both}

-- where phrasing content may be inserted
pub record Here (x : Position) (free : Bool) : Type 0 where
  pub body : is_body x.mode ≡ true
  pub opened : AreOpen (x.node ∷ x.others) x.active
  pub made : AreCreated x.created x.active
  pub no_link : free ≡ true → last_active (codes "a") x.active ≡ None

-- its tokens insert it there; elements are created, and some formatting elements are
-- no longer active
pub record Done (x : Position) (forest : Forest) : Type 0 where
  pub left : List Entry
  pub more : ℕ
  pub runs : run (parser_of x) (tokens forest)
      ≡ Some (parser_of (with_children x (put x.node.children forest) left more))
  pub keeps : Keeps x.active left
  pub later : x.created ≤ more

-- an element's start tag, what it holds and its end tag insert it
pub record Passed (x : Position) (name : List ℕ) (attributes : List Attribute)
    (inner : Forest) : Type 0 where
  pub left : List Entry
  pub more : ℕ
  pub runs : (ys : List Token) → run (parser_of x)
      (StartTag name (seen_attributes attributes) false ∷ (tokens inner ++ (EndTag name ∷ ys)))
      ≡ run (parser_of (with_children x
      (with_element x.node.children name (seen_attributes attributes) (put NoNode inner))
      left more)) ys
  pub keeps : Keeps x.active left
  pub later : x.created ≤ more

-- ---- where elements are held
abbrev pub Each : (List ℕ → Content → Type 0) → List (List ℕ × Content) → Type 0
Each P [] = Unit {0}
Each P (element ∷ others) = P element.0 element.1 × Each P others

-- what is known of an element, and of the others
pub also : {A B : Type 0} → A → B → A × B
also a b = (a, b)

-- an element that may stand somewhere is one of those
pub found : (P : List ℕ → Content → Type 0) (those : List (List ℕ × Content))
    (name : List ℕ) (inner : Forest) →
    Each P those →
    option_map_or (λ held. is_contained false held inner)
    (option_map (λ element. element.1) (find (λ element. bytes_eq element.0 name) those)) false
    ≡ true →
    (held : Content) × P name held × (is_contained false held inner ≡ true)
found P [] name inner each h = lie h
found P (element ∷ others) name inner each h =
    grind (arith, cond_both, bytes_eq-Decides, found P others name inner)

-- ---- names

-- where a link may stand
abbrev pub is_free : Content → Bool
is_free content = elim content [ Phrasing ↦ true | Flow ↦ true | _ ↦ false ]

pub record IsVoid (name : List ℕ) : Type 0 where
  pub outer : is_one_of parts name ≡ false
  pub starts : (attributes : List TokenAttribute) (p : Parser) →
      start_in_body name attributes p ≡ reconstructed p (insert_void name attributes)

-- an element outside tables
pub record IsOuter (name : List ℕ) : Type 0 where
  pub outer : is_one_of parts name ≡ false
  pub no_cell : is_one_of cells name ≡ false
  pub no_table : is_one_of (codes "table" ∷ codes "tr" ∷ sections) name ≡ false
  pub self : bytes_eq name name ≡ true

-- a formatting element; a link needs that none is active
pub record IsFormatting (name : List ℕ) : Type 0 where
  pub names : IsOuter name
  pub plain : is_one_of special name ≡ false
  pub starts : (attributes : List TokenAttribute) (p : Parser) →
      (bytes_eq name (codes "a") ≡ true → last_active (codes "a") p.active ≡ None) →
      start_in_body name attributes p ≡ reconstructed p (insert_formatting name attributes)
  pub ends : (p : Parser) → end_in_body name p ≡ end_formatting name p

-- an element without rules of its own
pub record IsOrdinary (name : List ℕ) : Type 0 where
  pub names : IsOuter name
  pub starts : (attributes : List TokenAttribute) (p : Parser) →
      start_in_body name attributes p ≡ reconstructed p (insert name attributes)
  pub ends : (p : Parser) → end_in_body name p ≡ end_other name p

pub void-named : (name : List ℕ) → is_one_of (codes "br" ∷ codes "img" ∷ codes "input" ∷ codes "wbr"
    ∷ []) name ≡ true → IsVoid name
void-named name h =
    let same = λ (one : List ℕ) (e : bytes_eq name one ≡ true). (bytes_eq-Decides name one).0 e in
    either _ _ h (λ e. rw (same (codes "br") e) search) (λ c. either _ _ c
    (λ e. rw (same (codes "img") e) search) (λ c. either _ _ c
    (λ e. rw (same (codes "input") e) search) (λ c. either _ _ c
    (λ e. rw (same (codes "wbr") e) search) (λ none. lie none))))

-- ---- what is built

-- a void tag
pub void-step : (x : Position) {name : List ℕ} (attributes : List TokenAttribute) →
    is_body x.mode ≡ true → AreOpen (x.node ∷ x.others) x.active → IsVoid name → step (parser_of x)
    (StartTag name attributes true) ≡ Some (parser_of (with_children x
    (with_element x.node.children name attributes NoNode) x.active (suc x.created)))
void-step x {name} attributes body opened v = start-in-body x body name attributes true v.outer
    ∙ (v.starts attributes (parser_of x) ∙ reconstructs x (insert_void name attributes) opened)

-- an element with what it holds, on the stack
abbrev pub full : Position → List ℕ → List Attribute → Forest → List Open
full x name attributes inner =
    element_of x.created name (seen_attributes attributes) (put NoNode inner) ∷ x.node ∷ x.others

-- an element, by what its start tag, its children and its end tag do
pub passes : {x : Position} {name : List ℕ} {attributes : List Attribute} {inner : Forest}
    (pushed kept : List Entry) (begun : Parser) → is_body x.mode ≡ true → IsOuter name →
    start_in_body name (seen_attributes attributes) (parser_of x) ≡ Some begun → ((ys : List Token)
    → run begun (tokens inner ++ (EndTag name ∷ ys)) ≡ run (parser_of
    (within x name (seen_attributes attributes) pushed)) (tokens inner ++ (EndTag name ∷ ys))) →
    (d : Done (within x name (seen_attributes attributes) pushed) inner) → end_in_body name
    (at x.mode (full x name attributes inner) d.left d.more) ≡ Some (at x.mode
    (popped (full x name attributes inner)) kept d.more) → Keeps x.active kept →
    Passed x name attributes inner
passes {x = x} {name = name} {attributes = attributes} {inner = inner} pushed kept begun body outer
    starts same d ends keeps =
    let those : List TokenAttribute = seen_attributes attributes in
    let new : Position = within x name those pushed in
    let last : Position = with_children new (put NoNode inner) d.left d.more in
    record {
      left = kept;
      more = d.more;
      runs = λ ys. after-one (parser_of x) begun (StartTag name those false) (tokens inner ++
          (EndTag name ∷ ys)) (start-in-body x body name those false outer.outer ∙ starts) ∙ (same
          ys ∙ (after (parser_of new) (parser_of last) (tokens inner) (EndTag name ∷ ys) d.runs ∙
          after-one (parser_of last) (at x.mode (popped (full x name attributes inner)) kept d.more)
          (EndTag name) ys ((grind arith) ∙ ends)));
      keeps = keeps;
      later = omega (d.later, arith);
    }
