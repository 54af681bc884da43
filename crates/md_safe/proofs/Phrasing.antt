-- Phrasing content is built as it is read: texts, void tags, formatting elements and others,
-- without a link in a link.
use Rattle.std.proofs.Common.{◌≡◌, inl, inr, ℕ, ◌≤◌, suc, Bool, true, false, List, refl, arith}
use Rattle.std.proofs.Common.{Some}
use Rattle.std.proofs.lemmas.Bool.{and_parts}
use Rattle.md_text.specs.Html.{Attribute, Forest, Empty, Text, Void, Element}
use Rattle.md_text.specs.References.{is_escaped}
use Rattle.md_safe.specs.Token.{StartTag, TokenAttribute}
use Rattle.md_safe.specs.Tokens.{seen, seen_attributes, tokens}
use Rattle.md_safe.specs.Contents.{Content, elements_in, is_contained}
use Rattle.md_safe.specs.Node.{Nodes, Entry, with_element, Empty as NoNode}
use Rattle.md_safe.specs.Formatting.{push}
use Rattle.md_safe.specs.Construction.{step, run}
use Rattle.md_safe.specs.Built.{has_whole_texts, with_characters, put}
use Rattle.md_safe.proofs.Lists.{Keeps, keeps-all, keeps-twice, keeps-open, keeps-created}
use Rattle.md_safe.proofs.Lists.{later-created, keeps-none}
use Rattle.md_safe.proofs.TreeSteps.{Position, parser_of, with_children, within, after, after-one}
use Rattle.md_safe.proofs.TreeSteps.{characters-run, same-open, seen-characters}
use Rattle.md_safe.proofs.PhrasingNames.{void-named, Here, Done, void-step, Passed, is_free, found}
use Rattle.md_safe.proofs.PhrasingRules.{rules, ordinary-passes, formatting-passes, Rule}
use Rattle.md_safe.proofs.PhrasingRules.{here-formatting, here-within, is_inline}

-- after what was inserted
pub here-after : {x : Position} {children : Nodes} {left : List Entry} {more : ℕ} {free : Bool} →
    Keeps x.active left → x.created ≤ more → Here x free → Here
    (with_children x children left more) free
here-after kept later here =
    grind (arith, same-open, keeps-open, later-created, keeps-created, keeps-none)

-- nothing
pub none-done : (x : Position) → Done x Empty
none-done x = record {
  left = x.active;
  more = x.created;
  runs = refl;
  keeps = keeps-all x.active;
  later = omega arith;
}

-- tokens after which the parser is at another place, and what is done from there
onward : {x : Position} {next : Nodes} {left : List Entry} {more : ℕ} {forest rest : Forest} →
    put x.node.children forest ≡ put next rest → run (parser_of x) (tokens forest)
    ≡ run (parser_of (with_children x next left more)) (tokens rest) → Keeps x.active left →
    x.created ≤ more → Done (with_children x next left more) rest → Done x forest
onward same leads keeps more later = grind (arith, keeps-twice)

-- a text, and what comes after it
pub text-done : {x : Position} {free : Bool} {bytes : List ℕ} {rest : Forest} →
    is_escaped bytes ≡ true → Here x free → Done (with_children x
    (with_characters x.node.children (seen bytes)) x.active x.created) rest →
    Done x (Text bytes rest)
text-done {x} {bytes = bytes} escaped here later =
    grind (arith, characters-run, seen-characters, onward, after, keeps-all)

-- a void tag, and what comes after it
pub void-done : {x : Position} {name : List ℕ} {attributes : List Attribute} {rest : Forest} → step
    (parser_of x) (StartTag name (seen_attributes attributes) true) ≡ Some (parser_of (with_children
    x (with_element x.node.children name (seen_attributes attributes) NoNode) x.active
    (suc x.created))) → Done (with_children x (with_element x.node.children name
    (seen_attributes attributes) NoNode) x.active (suc x.created)) rest →
    Done x (Void name attributes rest)
void-done inserts later = grind (arith, onward, after-one, keeps-all)

-- an element, and what comes after it
pub element-done : {x : Position} {name : List ℕ} {attributes : List Attribute}
    {inner rest : Forest} (passed : Passed x name attributes inner) → Done (with_children x
    (with_element x.node.children name (seen_attributes attributes) (put NoNode inner)) passed.left
    passed.more) rest → Done x (Element name attributes inner rest)
element-done {rest = rest} passed later = grind (arith, onward)

-- the parts of a text in a forest
pub text-escaped : (bytes : List ℕ) (rest : Forest) → has_whole_texts (Text bytes rest) ≡ true →
    (is_escaped bytes ≡ true) × (has_whole_texts rest ≡ true)
text-escaped bytes rest h = grind arith

-- and those of an element
pub element-parts : (name : List ℕ) (attributes : List Attribute) (inner rest : Forest) →
    has_whole_texts (Element name attributes inner rest) ≡ true →
    (has_whole_texts inner ≡ true) × (has_whole_texts rest ≡ true)
element-parts name attributes inner rest h = and_parts _ _ h

-- an element among spans, by what its children do
pub span-passes : {x : Position} {name : List ℕ} {attributes : List Attribute} {inner : Forest}
    {content held : Content} → Rule content name held → Here x (is_free content) →
    ((y : Position) → Here y (is_free held) → Done y inner) → Passed x name attributes inner
span-passes {x = x} {name = name} {attributes = attributes} rule here inside =
    let those : List TokenAttribute = seen_attributes attributes in
    elim rule.kind [
      | inl k ↦ formatting-passes here.body here.opened here.made k
          (λ e. here.no_link (rule.links e)) (inside
          (within x name those (push x.created name those x.active)) (here-formatting rule here))
      | inr k ↦ ordinary-passes here.body here.opened k (inside (within x name those x.active)
          (here-within (λ e. (rule.frees e).0) here))
    ]

pub phrasing-done : (f : Forest) (content : Content) → is_inline content ≡ true →
    has_whole_texts f ≡ true → is_contained false content f ≡ true → (x : Position) →
    Here x (is_free content) → Done x f
phrasing-done Empty content is h c x here = none-done x
phrasing-done (Text bytes rest) content is h c x here =
    let parts = text-escaped bytes rest h in
    let next : Nodes = with_characters x.node.children (seen bytes) in
    text-done parts.0 here (phrasing-done rest content is parts.1 (and_parts _ _ c).1
    (with_children x next x.active x.created) (here-after (keeps-all x.active) (omega arith) here))
phrasing-done (Void name attributes rest) content is h c x here =
    let parts = and_parts _ _ c in
    let next : Nodes = with_element x.node.children name (seen_attributes attributes) NoNode in
    void-done (grind (arith, void-step, void-named)) (phrasing-done rest content is h parts.1
    (with_children x next x.active (suc x.created)) (here-after (keeps-all x.active) (omega arith)
    here))
phrasing-done (Element name attributes inner rest) content is h c x here =
    let forests = element-parts name attributes inner rest h in
    let parts = and_parts _ _ c in
    let held = found (Rule content) (elements_in false content) name inner (rules content is)
    parts.0 in
    let passed : Passed x name attributes inner = span-passes held.1 here (λ y there. phrasing-done
    inner held.0 held.1.inline forests.0 held.2 y there) in
    let next : Nodes = with_element x.node.children name (seen_attributes attributes)
    (put NoNode inner) in
    element-done passed (phrasing-done rest content is forests.1 parts.1
    (with_children x next passed.left passed.more) (here-after passed.keeps passed.later here))
