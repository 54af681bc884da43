-- Tables are built as they are read: what stands in a part of one, by what each element of it does;
-- and their parts, rows and cells.
use Rattle.std.proofs.Common.{◌≡◌, ℕ, Bool, true, false, List, [], ◌∷◌, ◌++◌, refl, ap, ◌∙◌, map}
use Rattle.std.proofs.Common.{arith, ◌≤◌, codes, suc}
use Rattle.std.specs.Prelude.{Some, option_and_then}
use Rattle.std.specs.List.{list_all}
use Rattle.std.proofs.lemmas.Bool.{and_parts}
use Rattle.md_base.proofs.Lies.{lie}
use Rattle.md_text.specs.Bytes.{is_one_of}
use Rattle.md_text.specs.Html.{Attribute, Forest, Empty, Text, Void, Element, begins_with_text}
use Rattle.md_safe.specs.Token.{Character, StartTag, EndTag, TokenAttribute, Token}
use Rattle.md_safe.specs.Tokens.{seen, seen_attributes, tokens}
use Rattle.md_safe.specs.Contents.{is_space, Content, Parts, Rows, Cells, voids_in, may_say}
use Rattle.md_safe.specs.Contents.{is_contained, elements_in, Phrasing}
use Rattle.md_safe.specs.Node.{Entry, Mode, InTable, InRow, Parser, Nodes, with_element, Marker}
use Rattle.md_safe.specs.Node.{Empty as NoNode, InCell}
use Rattle.md_safe.specs.InTable.{is_tabular, mode_for}
use Rattle.md_safe.specs.Construction.{step, run}
use Rattle.md_safe.specs.Built.{with_characters, has_whole_texts, put, AreCreated, is_body}
use Rattle.md_safe.specs.Elements.{button_scope}
use Rattle.md_safe.specs.Stack.{is_named, has_in_scope}
use Rattle.md_safe.proofs.Steps.{past}
use Rattle.md_safe.proofs.TreeSteps.{after-one, Position, parser_of, with_children, after, within}
use Rattle.md_safe.proofs.TreeSteps.{start-in-body, element_of}
use Rattle.md_safe.proofs.TableTexts.{Settles, is_tables, text-waits}
use Rattle.md_safe.proofs.Lists.{later-created, keeps-all}
use Rattle.md_safe.proofs.PhrasingNames.{Each, found, Passed, also}
use Rattle.md_safe.proofs.Phrasing.{element-parts, phrasing-done}

itself : (p : Parser) → Settles p p
itself p = record { starts = λ name attributes flag. refl; ends = λ name. refl }

-- the tokens of a part of a table, read from a parser, up to characters that still wait
pub record Set (from : Parser) (x : Position) (forest : Forest) : Type 0 where
  pub more : ℕ
  pub last : Parser
  pub runs : run from (tokens forest) ≡ Some last
  pub settles : Settles last
      (parser_of (with_children x (put x.node.children forest) x.active more))
  pub later : x.created ≤ more

-- an element of it
pub record Put (x : Position) (name : List ℕ) (attributes : List Attribute)
    (inner : Forest) : Type 0 where
  pub more : ℕ
  pub runs : (ys : List Token) → run (parser_of x)
      (StartTag name (seen_attributes attributes) false ∷ (tokens inner ++ (EndTag name ∷ ys)))
      ≡ run (parser_of (with_children x
      (with_element x.node.children name (seen_attributes attributes) (put NoNode inner))
      x.active more)) ys
  pub later : x.created ≤ more

-- parts of tables
abbrev pub is_tabled : Content → Bool
is_tabled content = elim content [ Parts ↦ true | Rows ↦ true | Cells ↦ true | _ ↦ false ]

white-said : (content : Content) (bytes : List ℕ) → is_tabled content ≡ true →
    may_say content bytes ≡ true →
    list_all is_space bytes ≡ true
white-said content bytes is h = grind (arith, is, h)

no_void : (content : Content) (name : List ℕ) → is_tabled content ≡ true →
    is_one_of (voids_in content) name ≡ true →
    false ≡ true
no_void content name is h = grind (arith, is, h)

-- with this mode, and with an element of this name as the current node
abbrev pub part : Mode → List ℕ → Position → Position
part mode parent x = record x { mode = mode; node = record x.node { name = parent } }

-- an element that may stand there
abbrev pub Puts : Mode → List ℕ → List ℕ → Content → Type 0
Puts mode parent name held =
    (x : Position) (attributes : List Attribute) (inner : Forest) → has_whole_texts inner ≡ true →
    is_contained false held inner ≡ true → AreCreated x.created x.active →
    Put (part mode parent x) name attributes inner

module _ (content : Content) (is : is_tabled content ≡ true) (mode : Mode)
    (tables : is_tables mode ≡ true) (parent : List ℕ)
    (tabular : is_tabular (element_of 0 parent [] NoNode) ≡ true)
    (putting : Each (Puts mode parent) (elements_in false content)) where
  -- only before a text no other one waits
  pub set-all : (f : Forest) → has_whole_texts f ≡ true → is_contained false content f ≡ true →
      (x : Position) → AreCreated x.created x.active → (from : Parser) →
      Settles from (parser_of (part mode parent x)) →
      (begins_with_text f ≡ true → from ≡ parser_of (part mode parent x)) →
      Set from (part mode parent x) f
  set-all Empty h c x made from settles begins = record {
    more = x.created;
    last = from;
    runs = refl;
    settles = settles;
    later = omega arith;
  }
  set-all (Text bytes rest) h c x made from settles begins =
      let whole = and_parts _ _ h in
      let apart = and_parts _ _ whole.0 in
      let parts = and_parts _ _ c in
      let waits = text-waits (part mode parent x) bytes tables tabular apart.0
      (white-said content bytes is parts.0) in
      let later = set-all rest whole.1 parts.1 (with_children x
      (with_characters x.node.children (seen bytes)) x.active x.created) made waits.wait
      waits.settles (λ text. lie (rw text at apart.1)) in
      record {
        more = later.more;
        last = later.last;
        runs = rw (begins refl) (after (parser_of (part mode parent x)) waits.wait
            (map Character (seen bytes)) (tokens rest) waits.runs ∙ later.runs);
        settles = later.settles;
        later = later.later;
      }
  set-all (Void name attributes rest) h c x made from settles begins = lie
      (no_void content name is (and_parts _ _ c).0)
  set-all (Element name attributes inner rest) h c x made from settles begins =
      let forests = element-parts name attributes inner rest h in
      let parts = and_parts _ _ c in
      let held = found (Puts mode parent) (elements_in false content) name inner putting parts.0 in
      let own = held.1 x attributes inner forests.0 held.2 made in
      let next : Position = with_children x (with_element x.node.children name
      (seen_attributes attributes) (put NoNode inner)) x.active own.more in
      let later = set-all rest forests.1 parts.1 next
      (later-created x.created own.more x.active own.later made)
      (parser_of (part mode parent next)) (itself _) (λ text. refl) in
      record {
        more = later.more;
        last = later.last;
        runs = ap (option_and_then (λ q. run q (tokens inner ++ (EndTag name ∷ tokens rest))))
            (settles.starts name (seen_attributes attributes) false)
            ∙ (own.runs (tokens rest) ∙ later.runs);
        settles = later.settles;
        later = omega (own.later, later.later, arith);
      }

-- the children of an element of a table: its mode, and the active formatting elements
abbrev inside : Mode → Position → List ℕ → List TokenAttribute → List Entry → Position
inside mode x name those active = record (within x name those active) { mode = mode }

-- what an element's tags do there
abbrev Starts : Mode → List Entry → Position → List ℕ → Type 0
Starts mode active x name = (those : List TokenAttribute) →
    step (parser_of x) (StartTag name those false) ≡ Some
    (parser_of (inside mode x name those active))

abbrev Ends : Mode → List Entry → Position → List ℕ → Type 0
Ends mode active x name = (those : List TokenAttribute) (inner : Nodes) (more : ℕ) →
    step (parser_of (with_children (inside mode x name those active) inner active more))
    (EndTag name)
    ≡ Some (parser_of (with_children x (with_element x.node.children name those inner) x.active
    more))

-- an element, by its tags and what is in it
puts : {mode : Mode} {active : List Entry} {x : Position} {name : List ℕ}
    {attributes : List Attribute} {inner : Forest} → Starts mode active x name →
    Ends mode active x name → Set (parser_of (inside mode x name (seen_attributes attributes)
    active)) (inside mode x name (seen_attributes attributes) active) inner →
    Put x name attributes inner
puts {mode = mode} {active = active} {x = x} {name = name} {attributes = attributes} {inner = inner}
    starts ends d =
    let those : List TokenAttribute = seen_attributes attributes in
    let new : Position = inside mode x name those active in
    record {
      more = d.more;
      runs = λ ys. after-one (parser_of x) (parser_of new) (StartTag name those false)
          (tokens inner ++ (EndTag name ∷ ys)) (starts those) ∙ (after (parser_of new) d.last
          (tokens inner) (EndTag name ∷ ys) d.runs ∙ ap (option_and_then (λ q. run q ys))
          (d.settles.ends name ∙ ends those (put NoNode inner) d.more));
      later = omega (d.later, arith);
    }

-- a cell
cell-put : (name : List ℕ) → ((x : Position) → Starts InCell (Marker ∷ x.active)
    (part InRow (codes "tr") x) name) → ((x : Position) → Ends InCell (Marker ∷ x.active)
    (part InRow (codes "tr") x) name) → Puts InRow (codes "tr") name Phrasing
cell-put name starts ends x attributes inner h c made =
    let row : Position = part InRow (codes "tr") x in
    let new : Position = inside InCell row name (seen_attributes attributes) (Marker ∷ x.active) in
    let d = phrasing-done inner Phrasing refl h c new (grind (arith, later-created)) in
    puts (starts x) (ends x) (grind (arith, itself))

-- a row, or a part of a table
element-put : (mode : Mode) (parent : List ℕ) (inner-mode : Mode) (name : List ℕ) (held : Content) →
    is_tabled held ≡ true → is_tables inner-mode ≡ true →
    is_tabular (element_of 0 name [] NoNode) ≡ true →
    Each (Puts inner-mode name) (elements_in false held) →
    ((x : Position) → Starts inner-mode x.active (part mode parent x) name) →
    ((x : Position) → Ends inner-mode x.active (part mode parent x) name) →
    Puts mode parent name held
element-put mode parent inner-mode name held is tables tabular each starts ends x attributes inner h
    c made = puts (starts x) (ends x) (set-all held is inner-mode tables name tabular each inner h c
    (inside inner-mode (part mode parent x) name (seen_attributes attributes) x.active)
    (later-created x.created (suc x.created) x.active (omega arith) made) _ (itself _) (λ text.
    refl))

parts-put : Each (Puts InTable (codes "table")) (elements_in false Parts)
parts-put = also (element-put _ _ _ _ _ refl refl refl (also (element-put _ _ _ _ _ refl refl refl
    (search cell-put) (λ x t. refl) (λ x t i m. refl)) tt) (λ x t. refl) (λ x t i m. refl))
    (also (element-put _ _ _ _ _ refl refl refl (also (element-put _ _ _ _ _ refl refl refl
    (search cell-put) (λ x t. refl) (λ x t i m. refl)) tt) (λ x t. refl) (λ x t i m. refl))
    (also (element-put _ _ _ _ _ refl refl refl (also (element-put _ _ _ _ _ refl refl refl
    (search cell-put) (λ x t. refl) (λ x t i m. refl)) tt) (λ x t. refl) (λ x t i m. refl)) tt))

-- ---- a table
pub table-passes : {x : Position} {attributes : List Attribute} {inner : Forest} →
    is_body x.mode ≡ true → AreCreated x.created x.active → has_in_scope button_scope
    (is_named (codes "p")) (x.node ∷ x.others) ≡ false → mode_for (x.node ∷ x.others) ≡ x.mode →
    has_whole_texts inner ≡ true → is_contained false Parts inner ≡ true →
    Passed x (codes "table") attributes inner
table-passes {x} {attributes} {inner} body made none resets h c =
    let those : List TokenAttribute = seen_attributes attributes in
    let new : Position = inside InTable x (codes "table") those x.active in
    let d = set-all Parts refl InTable refl (codes "table") refl parts-put inner h c new
    (later-created x.created (suc x.created) x.active (omega arith) made) _ (itself _)
    (λ text. refl) in
    let p = puts (λ those. start-in-body x body (codes "table") those false refl ∙ past _ none refl)
    (grind arith) d in
    record {
      left = x.active;
      more = p.more;
      runs = p.runs;
      keeps = keeps-all x.active;
      later = p.later;
    }
