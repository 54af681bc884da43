-- What the nodes of a document mean: the induction over nodes of any content, for any claim that is
-- kept where two texts meet. It goes over all that an outcome has at once.
use Rattle.std.proofs.Common.{◌≡◌, true, false, ◌||◌, List, [], ◌∷◌, ◌++◌, sym, arith, subst}
use Rattle.std.proofs.Common.{append_assoc}
use Rattle.std.proofs.lemmas.Bool.{cond_both}
use Rattle.md_base.specs.declared.event.Name.{Name}
use Rattle.md_base.specs.declared.event.Name.TheVariants as name_variants
use name_variants.{GfmFootnoteDefinition}
use Rattle.md_base.specs.Is.{is as named}
use Rattle.md_base.specs.Tree.{Forest, Empty, Node}
use Rattle.md_base.specs.NameTests.{is_transparent}
use Rattle.md_pattern.specs.Looseness.{is_loose}
use Rattle.md_meaning.specs.declared.surroundings.Surroundings.{Surroundings}
use Rattle.md_meaning.specs.Meaning.Inherited.{inside}
use Rattle.md_meaning.specs.Meaning.At.{Defined, Footnote, target_in, Before, At, identifier_of}
use Rattle.md_meaning.specs.Meaning.Before.{before_children}
use Rattle.md_meaning.specs.Meaning.Layout.{Piece, layout, when}
use Rattle.md_meaning.specs.Meaning.Nodes.{Outcome, found_at, node, before_next, outcome}
use Rattle.md_content.specs.Built.{Content, may_stand, content_inside, content_after_node}
use Rattle.md_content.specs.Built.{content_after, IsBuilt}
use Rattle.md_safe.proofs.Contents.{stays-after, Holds, Follows}
use Rattle.md_safe.proofs.Insides.{allowed_inside, is_blocks, Suits, past_of}
use Rattle.md_safe.proofs.Following.{inside-blocks, asked-after-node, second, follows-after-node}
use Rattle.md_safe.proofs.Following.{suits-after-node}
use Rattle.md_safe.proofs.Spot.{IsWhole, Setting, AreTitles, IsFitAt, Prints, Inside, at_in}
use Rattle.md_safe.proofs.FlowNodes.{Reads}
use Rattle.md_safe.proofs.BlockNodes.{holds-none}
use Rattle.md_safe.proofs.Nodes.{Knows, any-node, inside-alone, Before as PrintsBefore}
use Rattle.md_safe.proofs.Findings.{AreFound, AreRead, titles-append, texts-append, Inner}
use Rattle.md_safe.proofs.Findings.{found-node, note-node}
use Rattle.md_safe.proofs.Cases.{on-later, on-either}

blocks-after-node : (content : Content) (name : Name) (children : Forest) →
    is_blocks content ≡ true → is_blocks (content_after_node content name children) ≡ true
blocks-after-node content name children h = cond_both _ _ _ (λ c. is_blocks c ≡ true) (λ _.
    stays-after (λ c. is_blocks c ≡ true) (λ c name. (past_of c name).stays) content children h) (λ
    _. (past_of content name).stays h)

-- what nodes mean: they print what may stand where they are, before what is printed after
-- them; what is found is good; the titles of definitions are escaped, and the texts of
-- footnotes are as claimed
pub record Means (s : Setting) (around : Surroundings) (content : Content) (forest : Forest)
    (means : Outcome) : Type 0 where
  pub prints : (later : List Piece) →
      Prints s (Holds s.p around.is_escaping around.in_image (content_after content forest)) later
      → Prints s (Holds s.p around.is_escaping around.in_image content) (means.pieces ++ later)
  pub found : AreFound s content means.found
  pub titles : AreTitles means.definitions
  pub texts : AreRead s means.footnotes

-- what is known where nodes stand
pub record Ready (s : Setting) (around : Surroundings) (before : Before)
    (content : Content) : Type 0 where
  pub suits : Suits around.is_escaping around.in_image content
  pub follows : Follows content before.spine
  pub whole : is_blocks content ≡ true → IsWhole s.p
  pub heading : is_blocks content ≡ true → Reads s before.heading

-- what is known where the children of a node stand
pub ready-inside : {s : Setting} {around : Surroundings} {before : Before} {content : Content}
    (name : Name) (children : Forest) → (is_transparent name || may_stand content name) ≡ true →
    Ready s around before content → Ready s
    (inside s.context.options (is_loose children) name around)
    (before_children name children before) (content_inside content name)
ready-inside {s = s} {around = around} {before = before} {content = content} name children stands
    r = grind (arith, allowed_inside, inside-blocks, cond_both, holds-none)

-- and where the next node stands
pub ready-after : {s : Setting} {content : Content} (t : At) (name : Name) (here : Outcome) →
    (is_transparent name || may_stand content name) ≡ true → IsBuilt s.context.bytes
    (content_inside content name) t.children → AreFound s content here.found →
    Ready s t.around t.before content → Ready s t.around
    (before_next t name here) (content_after_node content name t.children)
ready-after {s = s} {content = content} t name here stands built own r = record {
  suits = suits-after-node t.around.is_escaping t.around.in_image content name t.children r.suits;
  follows = grind (arith, follows-after-node);
  whole = asked-after-node (IsWhole s.p) content name t.children r.whole;
  heading = asked-after-node (Reads s (before_next t name here).heading) content name t.children
      (grind (arith, on-either));
}

pub means : (s : Setting) (forest : Forest) (around : Surroundings) (before : Before)
    (content : Content) → IsBuilt s.context.bytes content forest → Ready s around before content →
    Means s around content forest (outcome s.context around before forest)
means s Empty around before content built r = grind arith
means s (Node name start end children rest) around before content built r =
    let around' : Surroundings = inside s.context.options (is_loose children) name around in
    let before' : Before = before_children name children before in
    let inner : Outcome = outcome s.context around' before' children in
    let t : At = at_in around before start end children rest inner in
    let here : Outcome = node s.context t name inner in
    let next : Before = before_next t name here in
    let others : Outcome = outcome s.context around next rest in
    let within : Means s around' (content_inside content name) children inner = means s children
    around' before' (content_inside content name) built.2 (ready-inside name children built.0 r) in
    let i : Inner s t content name inner.pieces = grind arith in
    let own : AreFound s content here.found = found-node t name i in
    let after : Means s around (content_after_node content name children) rest others = means s rest
    around next (content_after_node content name children) built.3
    (ready-after t name here built.0 built.2 own r) in
    let k : Knows s t content name = grind arith in
    let defined : Defined = record {
      identifier = identifier_of s.context.bytes children;
      target = target_in inner.found;
    } in
    let noted : Footnote = record {
      identifier = identifier_of s.context.bytes children;
      text = layout s.context.ending inner.pieces;
    } in
    record {
      prints = λ later h. subst (Prints s (Holds s.p around.is_escaping around.in_image content))
          (sym (append_assoc here.pieces others.pieces later)) (any-node s t content name built.0 k
          inner.pieces (others.pieces ++ later) built.2 (λ pieces g. within.prints pieces g)
          (after.prints later h));
      found = grind (arith, on-later, blocks-after-node);
      titles = grind (arith, titles-append, cond_both);
      texts = texts-append (Reads s) here.footnotes others.footnotes (texts-append (Reads s)
          inner.footnotes (when (named GfmFootnoteDefinition name) (noted ∷ [])) within.texts
          (cond_both (named GfmFootnoteDefinition name) (noted ∷ []) [] (AreRead s)
          (λ is. (note-node t name i is, tt)) (λ _. tt))) after.texts;
    }

-- what the children of a node that isn't transparent print
pub inside-means : {s : Setting} {inner : Outcome} (t : At) (content : Content) (name : Name) →
    is_transparent name ≡ false → (is_transparent name || may_stand content name) ≡ true →
    IsFitAt s t name → IsBuilt s.context.bytes (content_inside content name) t.children → Means s
    (inside s.context.options (is_loose t.children) name t.around) (content_inside content name)
    t.children inner → Inside s t content name inner.pieces
inside-means {s} {inner} t content name solid stands fit built means = inside-alone s t content name
    (second _ _ solid stands) fit (rw solid at built) inner.pieces (rw solid at means.prints)

-- what is found at a node whose children print and find what they may
pub found-at : {s : Setting} {content : Content} (t : At) (name : Name) (inner : List Piece) →
    (is_transparent name || may_stand content name) ≡ true → IsFitAt s t name →
    Suits t.around.is_escaping t.around.in_image content → IsBuilt s.context.bytes
    (content_inside content name) t.children → PrintsBefore s t (content_inside content name) name
    inner → AreFound s (content_inside content name) t.found →
    AreFound s content (found_at t name (layout s.context.ending inner))
found-at t name inner stands fit suits built before found = grind (arith, found-node)
