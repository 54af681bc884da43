-- The text of blocks leaves no element open, and opens at most twice as many as the nesting of the
-- nodes: one induction over them. Other contents are known to open none.
use Rattle.std.proofs.Common.{◌≡◌, ℕ, ◌-◌, ◌*◌, ◌≤◌, suc, Bool, true, false, ◌||◌, cond, List, []}
use Rattle.std.proofs.Common.{◌∷◌, ◌++◌, refl, ap, ◌∙◌, arith, append-nil, inl, inr}
use Rattle.std.specs.Prelude.{Option, Some, None, unwrap_or}
use Rattle.std.proofs.lemmas.Bool.{cond_both, cases_Bool}
use Rattle.md_base.specs.declared.event.Name.{Name}
use Rattle.md_base.specs.declared.event.Name.TheVariants as name_variants
use name_variants.{GfmFootnoteDefinition}
use Rattle.md_base.specs.Is.{is as named}
use Rattle.md_base.specs.Tree.{Forest, Empty, Node}
use Rattle.md_base.specs.Children.{or_else}
use Rattle.md_base.specs.NameTests.{is_transparent}
use Rattle.md_meaning.specs.declared.surroundings.Surroundings.{Surroundings}
use Rattle.md_meaning.specs.Meaning.At.{Footnote, Before, At, identifier_of}
use Rattle.md_meaning.specs.Meaning.Layout.{layout, when}
use Rattle.md_meaning.specs.Meaning.Nodes.{Outcome, found_at, before_next, outcome}
use Rattle.md_content.specs.Built.{Blocks, is_part, is_source, may_stand, content_of}
use Rattle.md_content.specs.Built.{content_inside, IsBuilt}
use Rattle.md_safe.proofs.Contents.{after-blocks}
use Rattle.md_safe.proofs.Insides.{is_blocks, is_blocks-same}
use Rattle.md_safe.proofs.Following.{second}
use Rattle.md_safe.proofs.Nodes.{not_part}
use Rattle.md_safe.proofs.Findings.{AreFound}
use Rattle.md_safe.proofs.Forests.{Ready, Means, ready-inside, ready-after, means, found-at}
use Rattle.md_safe.proofs.Forests.{inside-means}
use Rattle.md_safe.proofs.Spot.{Setting}
use Rattle.md_safe.proofs.Costs.{Document, read_in, Place, here_of, inner_around, inner_before}
use Rattle.md_safe.proofs.Costs.{inner_of, at_of, place_at, through-node}
use Rattle.md_safe.proofs.PlainCosts.{no_footnotes}
use Rattle.md_depth.specs.Depth.{height}
use Rattle.md_depth.proofs.Machine.{Leads, leads-quiet, leads-kept}
use Rattle.md_depth.proofs.Moves.{Moves, ◌▸◌, none, laid}
use Rattle.md_depth.proofs.NodeMoves.{node-moves}

-- a heading that waits for its underline opens fewer
abbrev pub Waits : ℕ → List ℕ → Type 0
Waits n x = Leads 0 0 (n - 1) x

abbrev WaitsIn : ℕ → Option (List ℕ) → Type 0
WaitsIn n None = Unit {0}
WaitsIn n (Some x) = Waits n x

-- the number of elements open in the texts of some footnotes
abbrev pub TextsLead : ℕ → List Footnote → Type 0
TextsLead n [] = Unit {0}
TextsLead n (footnote ∷ others) = Leads 0 0 n footnote.text × TextsLead n others

pub texts-append : (n : ℕ) (xs ys : List Footnote) → TextsLead n xs → TextsLead n ys →
    TextsLead n (xs ++ ys)
texts-append n [] ys a b = b
texts-append n (x ∷ xs) ys a b = (a.0, texts-append n xs ys a.1 b)

texts-more : (m n : ℕ) (xs : List Footnote) → m ≤ n → TextsLead m xs → TextsLead n xs
texts-more m n [] few a = tt
texts-more m n (x ∷ xs) few a =
    (leads-kept a.0 (omega arith), texts-more m n xs few a.1)

-- what nodes print, a heading that is found, and the texts of footnotes
pub record Opens (d : Document) (n : ℕ) (made : Outcome) : Type 0 where
  pub prints : Moves d.context.ending n 0 0 made.pieces
  pub heading : WaitsIn n made.found.heading
  pub texts : TextsLead n made.footnotes

-- what is known where some blocks stand
pub record Fits (d : Document) (around : Surroundings) (before : Before) (n : ℕ)
    (forest : Forest) : Type 0 where
  pub built : IsBuilt d.context.bytes Blocks forest
  pub ready : Ready (read_in d) around before Blocks
  pub waits : Waits n before.heading
  pub room : 2 * height forest ≤ n

waits-both : (n : ℕ) (later first : Option (List ℕ)) → WaitsIn n later → WaitsIn n first →
    WaitsIn n (or_else later first)
waits-both n later first a b = grind arith

waits-next : (n : ℕ) (found : Option (List ℕ)) (before : List ℕ) → WaitsIn n found →
    Waits n before → Waits n (unwrap_or found before)
waits-next n found before a b = grind arith

-- the node's own footnote, if it is one
abbrev own : Document → Place → Name → Footnote
own d p name = record {
  identifier = identifier_of d.context.bytes p.children;
  text = layout d.context.ending (inner_of d p name).pieces;
}

-- the heading that a node is found to be
heading-here : (t : At) (name : Name) (n : ℕ) (x : List ℕ) → is_transparent name ≡ false →
    (is_blocks (content_of name Blocks) ≡ true → Waits n x) → WaitsIn n (found_at t name x).heading
heading-here t name n x solid h = grind arith

-- a node that isn't transparent
solid : (d : Document) (p : Place) (name : Name) (n : ℕ) → is_transparent name ≡ false →
    suc (suc (n - 2)) ≤ n → IsBuilt d.context.bytes Blocks
    (Node name p.start p.end p.children p.rest) → Ready (read_in d) p.around p.before Blocks →
    Waits n p.before.heading → Means (read_in d) (inner_around d p name)
    (content_inside Blocks name) p.children (inner_of d p name) →
    (is_blocks (content_of name Blocks) ≡ true → Opens d (n - 2) (inner_of d p name)) →
    Opens d n (here_of d p name)
solid d p name n e room built ready waits known below =
    let s : Setting = read_in d in
    let t : At = at_of d p name in
    let inner : Outcome = inner_of d p name in
    let stands = second (is_transparent name) (may_stand Blocks name) e built.0 in
    record {
      prints = node-moves s t (n - 2) n room name (ready.suits.escaped refl) e
          (not_part (is_part name || is_source name) stands) built.1
          (λ _. (n - 1, omega arith, waits)) known.found.resource inner.pieces
          (inside-means t Blocks name e built.0 built.1 built.2 known)
          (λ is. (below is).prints);
      heading = heading-here t name n (layout d.context.ending inner.pieces) e (λ is.
          leads-kept (laid (below is).prints) (omega arith));
      texts = texts-append n inner.footnotes (when (named GfmFootnoteDefinition name)
          (own d p name ∷ [])) (inside (is_blocks (content_of name Blocks)) refl) (cond_both
          (named GfmFootnoteDefinition name) (own d p name ∷ []) [] (TextsLead n) (λ is. (
            leads-kept (laid (below (grind arith)).prints) (omega arith),
            tt,
          )) (λ _. tt));
    }
  where
    inside : (blocks : Bool) → is_blocks (content_of name Blocks) ≡ blocks →
        TextsLead n (inner_of d p name).footnotes
    inside true is = texts-more (n - 2) n (inner_of d p name).footnotes (omega arith)
        (below is).texts
    inside false is =
        rw (no_footnotes d (content_inside Blocks name) p.children (inner_around d p name)
        (inner_before p name) (rw e is) built.2) tt

-- what some blocks mean
pub opens : (d : Document) (forest : Forest) (around : Surroundings) (before : Before) (n : ℕ) →
    Fits d around before n forest → Opens d n (outcome d.context around before forest)
opens d Empty around before n f = grind (arith, none)
opens d (Node name start end children rest) around before n f =
    let p : Place = place_at around before start end children rest in
    let t : At = at_of d p name in
    let here : Outcome = here_of d p name in
    let next : Before = before_next t name here in
    let others : Outcome = outcome d.context around next rest in
    let within : Ready (read_in d) (inner_around d p name) (inner_before p name)
    (content_inside Blocks name) = ready-inside name children f.built.0 f.ready in
    let known : Means (read_in d) (inner_around d p name) (content_inside Blocks name) children
    (inner_of d p name) = means (read_in d) children (inner_around d p name) (inner_before p name)
    (content_inside Blocks name) f.built.2 within in
    let found : AreFound (read_in d) Blocks here.found = found-at t name (inner_of d p name).pieces
    f.built.0 f.built.1 f.ready.suits f.built.2 known.prints known.found in
    let below : (k : ℕ) → 2 * height children ≤ k → Waits k (inner_before p name).heading →
    is_blocks (content_inside Blocks name) ≡ true → Opens d k (inner_of d p name) =
    λ k room waits is. opens d children (inner_around d p name) (inner_before p name) k
    (grind (arith, is_blocks-same)) in
    let kind = λ (b : Bool). is_blocks (cond b Blocks (content_of name Blocks)) in
    let one : Opens d n here = elim (cases_Bool (is_transparent name)) [
      | inl e ↦ grind (arith, through-node, append-nil)
      | inr e ↦
          solid d p name n e (omega (arith, f.room)) f.built f.ready f.waits known
          (λ is. below (n - 2) (omega (arith, f.room)) (rw e (leads-quiet [] refl))
          (ap kind e ∙ is))
    ] in
    let later : Opens d n others = opens d rest around next n (record {
      built = rw (after-blocks name children) at f.built.3;
      ready = rw (after-blocks name children) at
          (ready-after t name here f.built.0 f.built.2 found f.ready);
      waits = waits-next n here.found.heading before.heading one.heading f.waits;
      room = omega (arith, f.room);
    }) in
    record {
      prints = one.prints ▸ later.prints;
      heading = waits-both n others.found.heading here.found.heading later.heading one.heading;
      texts = texts-append n here.footnotes others.footnotes one.texts later.texts;
    }
