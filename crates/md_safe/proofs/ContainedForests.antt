-- The content model allows the meaning of a document's nodes: what pieces add to a text stands as
-- some content; one induction over blocks, in addition to that of `Forests`, which covers strings,
-- code and images.
use Rattle.md_base.proofs.Lies.{lie}
use Rattle.std.proofs.Common.{◌≡◌, ℕ, Bool, true, List, [], ◌++◌, refl, false, sym, ◌||◌, cond, ap}
use Rattle.std.proofs.Common.{◌∙◌, subst, append-nil, arith}
use Rattle.md_meaning.specs.Meaning.Layout.{Piece}
use Rattle.md_safe.proofs.Laid.{Adds, adds-append, adds-weaker, adds-nothing, adds-needed}
use Rattle.md_safe.specs.Contents.{Content, Phrasing, Flow}
use Rattle.md_safe.proofs.Stands.{Stands, stands-join, stands-nothing, stands-white, takes-white}
use Rattle.md_safe.proofs.Stands.{IsWhite, is_spaced, white_beside, line_ends-white, stands-text}
use Rattle.md_safe.proofs.Stands.{turns-tag, stands-tag, stands-void, stands-wider}
use Rattle.md_safe.proofs.Costs.{Document, read_in, through-node}
use Rattle.md_base.specs.declared.event.Name.{Name}
use Rattle.md_safe.proofs.Claims.{Claims, Known}
use Rattle.md_safe.proofs.Insides.{is_blocks, is_blocks-same}
use Rattle.md_content.specs.Built.{content_of, Blocks, is_part, is_source, may_stand}
use Rattle.md_content.specs.Built.{content_inside, IsBuilt}
use Rattle.md_safe.proofs.Linking.{unlinked-spans, unnested-inside, unlinked-here, place_in}
use Rattle.md_safe.proofs.Linking.{with_links, is_spans, inner_place, inner-place-with, IsLinked}
use Rattle.md_safe.proofs.Linking.{linked-inside, unnested-parts}
use Rattle.md_safe.proofs.Elements.{adds-empty_cells}
use Rattle.std.specs.Prelude.{Option}
use Rattle.md_base.specs.NameTests.{is_transparent}
use Rattle.md_meaning.specs.Meaning.At.{Footnote, At, Before}
use Rattle.md_meaning.specs.Meaning.Nodes.{Outcome, node, before_next, outcome}
use Rattle.md_safe.proofs.Findings.{AreTexts, AreFound, texts-append}
use Rattle.md_safe.specs.Placed.{sort_of, may_stand as may_place, IsPlaced}
use Rattle.md_safe.proofs.Cases.{OnSome, on-later, on-either, cases}
use Rattle.std.proofs.lemmas.Bool.{cond_both}
use Rattle.md_base.specs.Tree.{Forest, Empty, Node}
use Rattle.md_pattern.specs.Looseness.{is_loose}
use Rattle.md_meaning.specs.declared.surroundings.Surroundings.{Surroundings}
use Rattle.md_meaning.specs.Meaning.Inherited.{inside}
use Rattle.md_meaning.specs.Meaning.Before.{before_children}
use Rattle.md_safe.proofs.Following.{second}
use Rattle.md_safe.proofs.Nodes.{not_part}
use Rattle.md_safe.proofs.Forests.{Ready, ready-inside, ready-after, inside-means, found-at}
use Rattle.md_safe.proofs.Forests.{Means as SafeMeans, means as safe-means}
use Rattle.md_safe.proofs.PlainCosts.{no_footnotes}
use Rattle.md_safe.specs.Links.{has_nested_link}
use Rattle.md_safe.proofs.Contents.{after-blocks}
use Rattle.md_safe.proofs.SpanCases.{Spanning}
use Rattle.md_safe.proofs.FlowCases.{solid-node}
use Rattle.md_safe.proofs.Spot.{at_in}

-- what pieces add stands as this content
abbrev pub Lays : (nested : Bool) → List ℕ → Content → List Piece → Type 0
Lays nested ending content pieces = Adds ending (Stands nested content) pieces

pub lays-white : {nested : Bool} {ending : List ℕ} {content : Content} {pieces : List Piece} →
    is_spaced content ≡ true → Adds ending IsWhite pieces → Lays nested ending content pieces
lays-white is a = adds-weaker (λ x h. stands-white is h) a

pub lays-both : {nested : Bool} {ending : List ℕ} {content : Content} {xs ys : List Piece} →
    Lays nested ending content xs → Lays nested ending content ys →
    Lays nested ending content (xs ++ ys)
lays-both a b = adds-append stands-join a b

-- what pieces add in a document
abbrev pub Prints : (nested : Bool) → Document → Content → List Piece → Type 0
Prints nested d content pieces = Lays nested d.context.ending content pieces

-- what children print as content, where to the grammar they are blocks
abbrev pub Own : (nested : Bool) → Document → Content → Name → List Piece → Type 0
Own nested d content name inner = is_blocks (content_of name Blocks) ≡ true → Prints nested d
    (place_in nested content name) inner

-- the claims that a text stands as each content
abbrev pub standing : (nested : Bool) (d : Document) → IsWhite d.context.ending → Claims
standing nested d white = record {
  s = read_in d;
  nested = nested;
  holds = Stands nested;
  around = IsWhite;
  beside = white_beside;
  ending = white;
  line_ends = line_ends-white;
  space = (refl, refl);
  takes = λ content is. takes-white is;
  alone = λ content is x h. stands-white is h;
  text = λ content x h may. stands-text h may;
  tag = λ held content name opens. turns-tag held opens;
  element = λ held content name opens. stands-tag held opens;
  void = λ content name v. stands-void v;
  wider = stands-wider;
  code = λ x w h g. stands-join x w (stands-text h refl) (stands-text g.0 refl);
  filled = λ in_head kinds inner a. lays-both a (adds-empty_cells (read_in d).test
      (stands-tag Phrasing refl, stands-tag Phrasing refl) (λ xs a. lays-both
      (lays-white refl (adds-needed white_beside white)) a)
      (record { none = stands-nothing; both = stands-join }) (stands-nothing {content = Phrasing})
      in_head kinds);
}

-- a heading's text that was found is phrasing content
abbrev pub IsHeading : (nested : Bool) → Option (List ℕ) → Type 0
IsHeading nested found = OnSome (Stands nested Phrasing) found

-- the texts of some footnotes are flow content
abbrev pub AreFlow : (nested : Bool) → List Footnote → Type 0
AreFlow nested footnotes = AreTexts (Stands nested Flow) footnotes

-- what nodes mean, where their content stands
pub record Means (nested : Bool) (d : Document) (content : Content) (means : Outcome) : Type 0 where
  pub prints : Prints nested d content means.pieces
  pub heading : IsHeading nested means.found.heading
  pub texts : AreFlow nested means.footnotes

-- what is known where some nodes stand
pub record Fits (nested : Bool) (d : Document) (around : Surroundings) (before : Before)
    (content : Content) (forest : Forest) : Type 0 where
  pub white : IsWhite d.context.ending
  pub built : IsBuilt d.context.bytes Blocks forest
  pub placed : IsPlaced (with_links content) forest
  pub ready : Ready (read_in d) around before Blocks
  pub heading : Stands nested Phrasing before.heading
  pub linked : IsLinked nested content around
  pub unnested : nested ≡ false → has_nested_link around.in_link forest ≡ false

-- a node that isn't transparent
solid-means : {nested : Bool} {d : Document} {content : Content} {name : Name} {t : At}
    (white : IsWhite d.context.ending) (inner : Outcome) → is_transparent name ≡ false →
    (is_part name || is_source name) ≡ false → may_place (with_links content) (sort_of name)
    ≡ true → Known (standing nested d white) t name inner.pieces → (is_blocks
    (content_inside Blocks name) ≡ true → Means nested d (place_in nested content name) inner) →
    (is_blocks (content_inside Blocks name) ≡ false → inner.footnotes ≡ []) →
    (is_spans content ≡ true → Spanning t content name) → Means nested d
    content (node d.context t name inner)
solid-means {nested = nested} {d = d} {content = content} {name = name} {t = t} white inner solid
    whole stands k own none g =
    let own-prints : Own nested d content name inner.pieces = λ is. (own (same ∙ is)).prints in
    record {
      prints = solid-node (standing nested d white) t content name solid whole stands inner.pieces k
          own-prints g;
      heading = grind arith;
      texts = grind (arith, texts-append, inner-texts, cond_both);
    }
  where
    same : is_blocks (content_inside Blocks name) ≡ is_blocks (content_of name Blocks)
    same = ap (λ b. is_blocks (cond b Blocks (content_of name Blocks))) solid

    inner-texts : (blocks : Bool) → is_blocks (content_inside Blocks name) ≡ blocks →
        AreFlow nested inner.footnotes
    inner-texts true is = (own is).texts
    inner-texts false is = subst (AreFlow nested) (sym (none is)) tt

any-node : (nested : Bool) (d : Document) (white : IsWhite d.context.ending) (content : Content)
    (name : Name) (t : At) (inner : Outcome) → t.found ≡ inner.found →
    (is_transparent name ≡ false → Known (standing nested d white) t name inner.pieces) →
    (is_transparent name || may_stand Blocks name) ≡ true → (is_transparent name || may_place
    (with_links content) (sort_of name)) ≡ true → (is_blocks (content_inside Blocks name) ≡ true →
    Means nested d (inner_place nested content name) inner) →
    (is_blocks (content_inside Blocks name) ≡ false → inner.footnotes ≡ []) →
    (is_spans content ≡ true → Spanning t content name) → Means nested d
    content (node d.context t name inner)
any-node nested d white content name t inner same k stands placed own none g =
    cases (is_transparent name) (λ e. grind (arith, through-node, append-nil)) (λ e. solid-means
    white inner e (not_part _ (second _ _ e stands)) (second _ _ e placed) (k e) (λ is. rw e at (own
    is)) none g)

pub means : (nested : Bool) (d : Document) (forest : Forest) (around : Surroundings)
    (before : Before) (content : Content) → Fits nested d around before content forest →
    Means nested d content (outcome d.context around before forest)
means nested d Empty around before content f = grind (arith, adds-nothing, stands-nothing)
means nested d (Node name start end children rest) around before content f =
    let around' : Surroundings = inside d.context.options (is_loose children) name around in
    let before' : Before = before_children name children before in
    let inner : Outcome = outcome d.context around' before' children in
    let t : At = at_in around before start end children rest inner in
    let here : Outcome = node d.context t name inner in
    let next : Before = before_next t name here in
    let others : Outcome = outcome d.context around next rest in
    let within : Ready (read_in d) around' before' (content_inside Blocks name) = ready-inside name
    children f.built.0 f.ready in
    let known : SafeMeans (read_in d) around' (content_inside Blocks name) children inner =
    safe-means (read_in d) children around' before' (content_inside Blocks name) f.built.2 within in
    let found : AreFound (read_in d) Blocks here.found = found-at t name inner.pieces f.built.0
    f.built.1 f.ready.suits f.built.2 known.prints known.found in
    let own : is_blocks (content_inside Blocks name) ≡ true → Means nested d
    (inner_place nested content name) inner = λ is. means nested d children around' before'
    (inner_place nested content name) (record {
      white = f.white;
      built = rw (is_blocks-same (content_inside Blocks name) is) at f.built.2;
      placed = rw (inner-place-with nested content name) f.placed.1;
      ready = rw (is_blocks-same (content_inside Blocks name) is) at within;
      heading = cond_both (is_transparent name) before.heading [] (Stands nested Phrasing)
          (λ _. f.heading) (λ _. stands-nothing);
      linked = linked-inside nested d.context.options (is_loose children) content name around
          f.linked;
      unnested = λ no. unnested-inside d.context.options (is_loose children) name around start end
          children rest is (f.unnested no);
    }) in
    let one : Means nested d content here = any-node nested d f.white content name t inner refl
    (λ solid. record {
      escaping = f.ready.suits.escaped refl;
      outside = f.ready.suits.outside refl;
      fit = f.built.1;
      resource = known.found.resource;
      ids = λ call value. refl;
      heading = λ is. f.heading;
      within = inside-means t Blocks name solid f.built.0 f.built.1 f.built.2 known;
    }) f.built.0 f.placed.0 own
    (λ none. no_footnotes d (content_inside Blocks name) children around' before' none f.built.2)
    (λ is. record {
      spans = is;
      free = λ prints. unlinked-here nested content name around start end children rest is prints
          f.linked f.unnested;
      plain = λ no. unlinked-spans content is (λ linked. lie (sym no ∙ (f.linked linked).1));
    }) in
    let later : Means nested d content others = means nested d rest around next content (record {
      white = f.white;
      built = rw (after-blocks name children) at f.built.3;
      placed = f.placed.2;
      ready = rw (after-blocks name children) at
          (ready-after t name here f.built.0 f.built.2 found f.ready);
      heading = on-either (Stands nested Phrasing) here.found.heading before.heading one.heading
          f.heading;
      linked = f.linked;
      unnested = λ no. (unnested-parts name around.in_link start end children rest
          (f.unnested no)).1;
    }) in
    record {
      prints = lays-both one.prints later.prints;
      heading = grind (arith, on-later);
      texts = texts-append (Stands nested Flow) here.footnotes others.footnotes one.texts
          later.texts;
    }
