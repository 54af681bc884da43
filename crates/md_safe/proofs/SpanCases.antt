-- What stands in a line of text: strings, spans, links and what prints nothing print phrasing
-- content.
use Rattle.std.proofs.Common.{Bool, List, codes, false, refl, suc, sym, true, ℕ, ◌&&◌, ◌++◌, ◌||◌}
use Rattle.std.proofs.Common.{◌∷◌, ◌≡◌, subst, [], not, cond, arith}
use Rattle.std.proofs.lemmas.Bool.{and_parts, cond_both, not-true, or_parts}
use Rattle.std.specs.Prelude.{None}
use Rattle.md_base.specs.declared.event.Name.TheVariants as name_variants
use name_variants.{GfmFootnoteCall, GfmTaskListItemCheck, HardBreakEscape, HardBreakTrailing, Image}
use name_variants.{Link}
use Rattle.md_base.proofs.Lies.{lie}
use Rattle.md_base.specs.Is.{is as named}
use Rattle.md_base.specs.declared.event.Name.{Name}
use Rattle.md_content.specs.Built.{Blocks, content_of, is_autolink}
use Rattle.md_meaning.specs.Meaning.At.{At, Target, identifier_of, text_in}
use Rattle.md_meaning.specs.Meaning.Footnotes.{count_of, distinct, place_among}
use Rattle.md_meaning.specs.Meaning.Layout.{Piece, Text, layout, said, when}
use Rattle.md_meaning.specs.Meaning.Means.{prints}
use Rattle.md_meaning.specs.Meaning.Media.{anchor, autolink}
use Rattle.md_meaning.specs.Meaning.Spans.{task_start}
use Rattle.md_text.proofs.EncodeLaws.{is_escaped-encoded}
use Rattle.md_text.specs.Encode.{encoded}
use Rattle.md_safe.proofs.BlockNodes.{hidden-prints, is_hidden, is_silent, silent-block}
use Rattle.md_safe.proofs.BlockNodes.{silent-prints}
use Rattle.md_safe.proofs.Calls.{adds-call}
use Rattle.md_safe.proofs.Cases.{either, cases}
use Rattle.md_safe.proofs.Claims.{are-spans, AreSpans, Claims, Here, Known, Own, Prints, SpanPrints}
use Rattle.md_safe.proofs.Claims.{nothing, pair, plain_tag, says}
use Rattle.md_safe.proofs.Elements.{adds-task, class-passes}
use Rattle.md_safe.proofs.FlowNodes.{is_leaf, leaf-escaped}
use Rattle.md_safe.proofs.Laid.{Adds, adds-alone, adds-text, adds-weaker}
use Rattle.md_safe.proofs.Linking.{in_link, is_spans, place_in}
use Rattle.md_safe.proofs.Media.{IsEscapedTitle, adds-image, adds-link}
use Rattle.md_safe.proofs.SpanNodes.{is_shown, is_single}
use Rattle.md_safe.proofs.SpanSorts.{by_pair, code-prints, code-text, code_opening, is_code}
use Rattle.md_safe.proofs.SpanSorts.{is_math, is_pair, pair-prints, shown-escaped, shown_in}
use Rattle.md_safe.proofs.SpanSorts.{autolink-prints}
use Rattle.md_safe.proofs.Spot.{target-title}
use Rattle.md_safe.proofs.StringNodes.{is_text, text-node}
use Rattle.md_safe.proofs.Tags.{Tagged, adds-flat, attribute}
use Rattle.md_safe.proofs.Texts.{Escaped}
use Rattle.md_safe.specs.Contents.{Characters, Content, Phrasing}
use Rattle.md_safe.specs.Links.{prints_link}
use Rattle.md_safe.proofs.Insides.{is_blocks}

-- ---- links

-- the tag of a link
pub a-tag : (m : Claims) → Tagged m.s.p.test (m.holds (in_link m.nested))
    (m.holds Phrasing) (codes "a")
a-tag m = m.element (in_link m.nested) Phrasing (codes "a") refl

link : (m : Claims) (target : Target) (label : List ℕ) → IsEscapedTitle target.title →
    m.holds (in_link m.nested) label → Prints m Phrasing (anchor m.s.context.options target label)
link m target label h r = adds-link m.s.test (a-tag m) target label h r

autolinked : (m : Claims) {content : Content} → AreSpans m.nested content →
    (t : At) (plain : Bool) (prefix : List ℕ) → (plain ≡ false → content ≡ Phrasing) →
    Prints m content (autolink m.s.context t plain prefix)
autolinked m {content} f t plain prefix free =
    let x : List ℕ = text_in m.s.context.bytes t.place in
    let said_so : Escaped (encoded true x) = is_escaped-encoded x in
    cond_both _ _ _ (Prints m content) (λ _. adds-text (says m f _ said_so)) (λ other. rw (free
    other) (link m (record { destination = prefix ++ x; title = None }) (encoded true x) tt (grind
    arith)))

autolink-node : (m : Claims) (t : At) (content : Content) (name : Name) → is_autolink name ≡ true →
    SpanPrints m t content name
autolink-node m t content name is inner k a = rw (autolink-prints m.s.context t name is inner)
    (grind (arith, autolinked, or_parts))

-- ---- spans

-- in spans with tags around them blocks stand, and they are no links
pair-blocks : (name : Name) →
    not (is_pair name) || (is_blocks (content_of name Blocks) && not (named Link name)) ≡ true
pair-blocks name = grind arith

pair-node : (m : Claims) (t : At) (content : Content) (name : Name) → is_pair name ≡ true →
    SpanPrints m t content name
pair-node m t content name is inner k a =
    grind (arith, and_parts, pair-blocks, pair-prints, pair, by_pair, plain_tag, not-true)

-- code or math
code-node : (m : Claims) (t : At) (content : Content) (name : Name) → is_code name ≡ true →
    SpanPrints m t content name
code-node m t content name is inner k a =
    let x : List ℕ = layout m.s.context.ending inner in
    let e : Escaped (shown_in t x) = grind (arith, shown-escaped, code-text) in
    rw (code-prints m.s.context t name is inner, k.outside) (by (is_math name) (m.element Characters
    content (codes "code") a.spans.code) (m.text Characters (shown_in t x) e refl))
  where
    by : {Q R : List ℕ → Type 0} {x : List ℕ} (math : Bool) → Tagged m.s.p.test Q R (codes "code") →
        Q x → Adds m.s.context.ending R (Text (code_opening math) ∷ Text x ∷ Text
        (codes "</code>") ∷ [])
    by true tagged h = adds-flat refl (tagged.tag (attribute (codes "class")
        (codes "language-math math-inline") ∷ []) _ refl
        (class-passes m.s.test (codes "language-math math-inline")) h)
    by false tagged h = adds-flat refl (tagged.tag [] _ refl refl h)

-- a break outside images
break : (m : Claims) (t : At) {content : Content} → AreSpans m.nested content →
    t.around.in_image ≡ false → Prints m
    content (when (not t.around.in_image) (said (codes "<br />")))
break m t {content} f out =
    rw out (adds-flat refl ((m.void content (codes "br") f.br).tag [] refl refl))

single-node : (m : Claims) (t : At) (content : Content) (name : Name) → is_single name ≡ true →
    SpanPrints m t content name
single-node m t content Link is inner k a = grind (arith, link, target-title, adds-alone)
single-node m t content Image is inner k a = grind (arith, adds-image, target-title, adds-alone)
single-node m t content HardBreakEscape is inner k a = break m t a.spans k.outside
single-node m t content HardBreakTrailing is inner k a = break m t a.spans k.outside
single-node m t content GfmTaskListItemCheck is inner k a = subst (λ b. Prints m content (cond b
    inner (task_start m.s.context ++ (inner ++ said (codes "/>"))))) (sym k.outside) (adds-task
    m.s.test (m.void content (codes "input") a.spans.input)
    m.s.context.options.gfm_task_list_item_checkable t.around.in_image k.within)
single-node m t content GfmFootnoteCall is inner k a =
    let identifier : List ℕ = identifier_of m.s.context.bytes t.children in
    let number : ℕ = place_among (distinct m.s.context.calls) identifier in
    let occurrence : ℕ = suc (count_of t.calls identifier) in
    rw (a.free refl, k.outside) (adds-call m.s.test (a-tag m) (m.element Phrasing Phrasing (codes
    "sup") refl) (grind arith) identifier number occurrence (grind arith))
single-node m t content _ is inner k a = lie is

-- ---- all of them

-- what prints phrasing content
abbrev pub is_inline : Name → Bool
is_inline name =
    is_text name || (is_shown name || (is_autolink name || (is_leaf name || (is_hidden name
    || is_silent name))))

-- spans stand in spans, of the same content but in a link
spans-in : (nested : Bool) (content : Content) (name : Name) → is_spans content ≡ true →
    is_hidden name ≡ false → is_inline name ≡ true → named Link name ≡ false →
    place_in nested content name ≡ content
spans-in nested content name spans shown is other = grind arith

link-in : (nested : Bool) (content : Content) (name : Name) → content ≡ Phrasing →
    named Link name ≡ true →
    place_in nested content name ≡ in_link nested
link-in nested content name same is = grind arith

-- where spans stand, with links or without
pub record Spanning (t : At) (content : Content) (name : Name) : Type 0 where
  pub spans : is_spans content ≡ true
  pub free : prints_link name ≡ true → content ≡ Phrasing
  pub plain : t.around.in_link ≡ false → content ≡ Phrasing

pub inline-node : (m : Claims) (t : At) (content : Content) (name : Name) → is_inline name ≡ true →
    (inner : List Piece) → Known m t name inner → Own m content name inner →
    Spanning t content name → Prints m content (prints m.s.context t name inner)
inline-node m t content name is inner k own g = cases (is_hidden name)
    (λ h. rw (hidden-prints m.s.context t name h inner) (nothing m spans.spaced)) (λ h.
    let a = here h in
    either _ _ is (λ is. escaped (text-node m.s t Escaped name (λ x h. h k.escaping) is k.fit
    inner)) (λ c. either _ _ c (λ is. either (is_pair name) _ is (grind (arith, pair-node)) (λ c.
    either (is_code name) _ c (λ is. code-node m t content name is inner k a) (λ is. single-node m t
    content name is inner k a))) (λ c. either _ _ c (λ is. autolink-node m t content name is inner k
    a) (grind (arith, escaped, leaf-escaped, silent-prints, silent-block)))))
  where
    spans : AreSpans m.nested content
    spans = are-spans m.nested content g.spans

    here : is_hidden name ≡ false → Here m t content name inner
    here shown = record {
      spans = spans;
      own = λ blocks other. rw (spans-in m.nested content name g.spans shown is other) at (own
          blocks);
      label = λ link. rw (link-in m.nested content name (g.free (grind arith)) link) at (own
          (link-blocks name link));
      free = g.free;
      plain = g.plain;
    }
      where
        link-blocks : (name : Name) → named Link name ≡ true →
            is_blocks (content_of name Blocks) ≡ true
        link-blocks Link is = refl
        link-blocks _ is = lie is

    escaped : Adds m.s.context.ending Escaped (prints m.s.context t name inner) →
        Prints m content (prints m.s.context t name inner)
    escaped a = adds-weaker (says m spans) a
