-- Flow content is built as it is read: blocks, lists, preformatted code, and among them
-- spans and tables.
use Rattle.std.proofs.Common.{◌≡◌, ◌⊎◌, inl, inr, ℕ, ◌≤◌, suc, true, false, List, ◌∷◌, refl, sym}
use Rattle.std.proofs.Common.{ap, ◌∙◌, codes, arith}
use Rattle.std.specs.Prelude.{Some}
use Rattle.std.proofs.lemmas.Bool.{and_parts, or_cases}
use Rattle.std.proofs.lemmas.Slice.Eq.{bytes_eq-Decides}
use Rattle.md_base.proofs.Lies.{lie}
use Rattle.md_text.specs.Html.{Attribute, Forest, Empty, Text, Void, Element}
use Rattle.md_safe.specs.Token.{StartTag, TokenAttribute}
use Rattle.md_safe.specs.Tokens.{seen, seen_attributes}
use Rattle.md_text.specs.Bytes.{is_one_of}
use Rattle.md_safe.specs.Contents.{voids_in, Content, elements_in, is_contained}
use Rattle.md_safe.specs.Node.{Nodes, Entry, with_element, Empty as NoNode}
use Rattle.md_safe.specs.Elements.{headings}
use Rattle.md_safe.specs.Stack.{is_among}
use Rattle.md_safe.specs.InBody.{has_item}
use Rattle.md_safe.specs.InTable.{mode_for}
use Rattle.md_safe.specs.Construction.{step}
use Rattle.md_safe.specs.Built.{has_whole_texts, with_characters, put}
use Rattle.md_safe.proofs.Lists.{Keeps, keeps-all}
use Rattle.md_safe.proofs.TreeSteps.{Position, parser_of, with_children, within, start-in-body}
use Rattle.md_safe.proofs.PhrasingNames.{Here, Done, Passed, found, is_free, IsVoid, void-named}
use Rattle.md_safe.proofs.PhrasingNames.{void-step}
use Rattle.md_safe.proofs.PhrasingRules.{is_inline, here-within}
use Rattle.md_safe.proofs.Phrasing.{span-passes, phrasing-done, here-after, none-done, text-done}
use Rattle.md_safe.proofs.Phrasing.{void-done, element-done, text-escaped, element-parts}
use Rattle.md_safe.proofs.Tables.{table-passes}
use Rattle.md_safe.proofs.FlowRules.{IsBlock, HasNoParagraph, block-passes, pre-passes, is_items}
use Rattle.md_safe.proofs.FlowRules.{Holder, EndsItems, is_flowing, Ruled, flowing-rules}

-- ---- all flow content

-- where flow content, items or preformatted code may be inserted
pub record There (content : Content) (x : Position) : Type 0 where
  pub here : Here x true
  pub no_p : HasNoParagraph (x.node ∷ x.others)
  pub plain : is_among headings x.node ≡ false
  pub resets : mode_for (x.node ∷ x.others) ≡ x.mode
  pub no_item : is_items content ≡ true → has_item (x.node ∷ x.others) ≡ false

there-after : {content : Content} {x : Position} {children : Nodes} {left : List Entry} {more : ℕ} →
    Keeps x.active left → x.created ≤ more → There content x →
    There content (with_children x children left more)
there-after kept later there = record {
  here = here-after kept later there.here;
  no_p = there.no_p;
  plain = there.plain;
  resets = there.resets;
  no_item = there.no_item;
}

-- under a new element
there-within : {content held : Content} {x : Position} {name : List ℕ}
    {those : List TokenAttribute} → Holder name → (is_items held ≡ true → EndsItems name) →
    There content x → There held (within x name those x.active)
there-within {x = x} {those = those} k items there = record {
  here = here-within (λ e. e) there.here;
  no_p = k.block.keeps_p x.created those NoNode (x.node ∷ x.others) k.other there.no_p;
  plain = k.calm;
  resets = k.passes x.created those NoNode (x.node ∷ x.others) ∙ there.resets;
  no_item = λ is. items is x.created those NoNode (x.node ∷ x.others);
}

-- a link may stand there, or none does
here-in : (content : Content) {x : Position} → Here x true → Here x (is_free content)
here-in content here = grind arith

-- what children do, for all contents that an element may hold
record Inside (inner : Forest) (held : Content) : Type 0 where
  inline : is_inline held ≡ true → (x : Position) → Here x (is_free held) → Done x inner
  flowing : is_flowing held ≡ true → (x : Position) → There held x → Done x inner

kind-passes : {content held : Content} {x : Position} {name : List ℕ} {attributes : List Attribute}
    {inner : Forest} → Ruled content name held → There content x → has_whole_texts inner ≡ true →
    is_contained false held inner ≡ true → Inside inner held → Passed x name attributes inner
kind-passes {content} {held} {x} {name} {attributes} {inner} rule there h c inside =
    let those : List TokenAttribute = seen_attributes attributes in
    let new : Position = within x name those x.active in
    let blocked = λ (k : IsBlock name) (d : Done new inner). block-passes there.here.body k
    there.no_p there.plain (λ e. there.no_item (rule.item e)) d in
    elim rule.kind [
      | inl k ↦ span-passes k (here-in content there.here) (inside.inline k.inline)
      | inr (inl k) ↦ blocked k.0 (inside.inline (ap is_inline k.1) new
          (here-within (λ e. refl) there.here))
      | inr (inr (inl k)) ↦ blocked k.0.block (inside.flowing (ap is_flowing k.1) new (there-within
          k.0 (λ e. lie (sym (ap is_items k.1) ∙ e)) there))
      | inr (inr (inr (inl k))) ↦ blocked k.0.block (inside.flowing (ap is_flowing k.1) new
          (there-within k.0 (λ e. k.2) there))
      | inr (inr (inr (inr (inl k)))) ↦ grind (arith, table-passes)
      | inr (inr (inr (inr (inr k)))) ↦ rw k.0 (pre-passes there.here.body there.no_p (rw k.1 at c)
          (inside.flowing
          (ap is_flowing k.1) (within x (codes "pre") those x.active) (record {
            here = here-within (λ e. e) there.here;
            no_p = there.no_p;
            plain = refl;
            resets = there.resets;
            no_item = λ e. lie (sym (ap is_items k.1) ∙ e);
          })))
    ]

-- a rule, besides a void tag of a span
flow-void : (content : Content) (name : List ℕ) → is_flowing content ≡ true →
    is_one_of (voids_in content) name ≡ true → (name ≡ codes "hr") ⊎ IsVoid name
flow-void content name is h = grind (arith, or_cases, bytes_eq-Decides, void-named)

flow-void-step : {x : Position} {name : List ℕ} (attributes : List TokenAttribute) →
    (name ≡ codes "hr") ⊎ IsVoid name → Here x true → HasNoParagraph (x.node ∷ x.others) → step
    (parser_of x) (StartTag name attributes true) ≡ Some (parser_of (with_children x
    (with_element x.node.children name attributes NoNode) x.active (suc x.created)))
flow-void-step {x = x} attributes (inr v) here none = void-step x attributes here.body here.opened v
flow-void-step attributes (inl e) here none = grind (arith, start-in-body)

pub flow-done : (f : Forest) (content : Content) → is_flowing content ≡ true →
    has_whole_texts f ≡ true → is_contained false content f ≡ true → (x : Position) →
    There content x → Done x f
flow-done Empty content is h c x there = none-done x
flow-done (Text bytes rest) content is h c x there =
    let parts = text-escaped bytes rest h in
    let next : Nodes = with_characters x.node.children (seen bytes) in
    text-done parts.0 there.here (flow-done rest content is parts.1 (and_parts _ _ c).1
    (with_children x next x.active x.created)
    (there-after (keeps-all x.active) (omega arith) there))
flow-done (Void name attributes rest) content is h c x there =
    let parts = and_parts _ _ c in
    let next : Nodes = with_element x.node.children name (seen_attributes attributes) NoNode in
    void-done (grind (arith, flow-void-step, flow-void)) (flow-done
    rest content is h parts.1 (with_children x next x.active (suc x.created)) (there-after
    (keeps-all x.active) (omega arith) there))
flow-done (Element name attributes inner rest) content is h c x there =
    let forests = element-parts name attributes inner rest h in
    let parts = and_parts _ _ c in
    let held = found (Ruled content) (elements_in false content) name inner
    (flowing-rules content is) parts.0 in
    let passed : Passed x name attributes inner =
    kind-passes held.1 there forests.0 held.2 (record {
      inline = λ inline y here. phrasing-done inner held.0 inline forests.0 held.2 y here;
      flowing = λ flowing y there'. flow-done inner held.0 flowing forests.0 held.2 y there';
    }) in
    let next : Nodes = with_element x.node.children name (seen_attributes attributes)
    (put NoNode inner) in
    element-done passed (flow-done rest content is forests.1 parts.1
    (with_children x next passed.left passed.more) (there-after passed.keeps passed.later there))
