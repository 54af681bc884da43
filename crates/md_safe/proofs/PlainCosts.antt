-- What nodes cost whose names have no rule of their own.
use Rattle.std.proofs.Common.{◌≡◌, ℕ, Bool, true, false, ◌||◌, List, [], refl, sym, ◌∙◌, arith}
use Rattle.md_base.proofs.Lies.{lie}
use Rattle.md_base.specs.declared.event.Name.{Name}
use Rattle.md_base.specs.declared.event.Name.TheVariants as name_variants
use name_variants.{HeadingSetextText, HeadingSetextUnderlineSequence, GfmFootnoteDefinition}
use Rattle.md_base.specs.Is.{is as named}
use Rattle.md_base.specs.Tree.{Forest, Empty, Node}
use Rattle.md_base.specs.NameTests.{is_transparent, is_call}
use Rattle.md_meaning.specs.declared.surroundings.Surroundings.{Surroundings}
use Rattle.md_meaning.specs.Meaning.At.{Before}
use Rattle.md_meaning.specs.Meaning.Nodes.{before_next, outcome}
use Rattle.md_content.specs.Underlined.{waits_past}
use Rattle.md_content.specs.Built.{Content, Blocks, is_part, is_source, may_stand, content_of}
use Rattle.md_content.specs.Built.{content_inside, content_after_node, IsBuilt, IsFit}
use Rattle.md_safe.proofs.Insides.{is_blocks, is_blocks-same}
use Rattle.md_safe.proofs.Following.{inside-blocks, asked-after-node}
use Rattle.md_safe.proofs.Spot.{Inside}
use Rattle.md_safe.proofs.Forests.{Ready, Means, means, inside-means}
use Rattle.md_safe.proofs.Costs.{Waiting, Document, read_in, Place, inner_around, inner_before}
use Rattle.md_safe.proofs.Costs.{inner_of, counted_in, Costs, at_of, here_of, Below, cost-least}
use Rattle.md_safe.proofs.Costs.{no-footnote, place_at}
use Rattle.md_safe.proofs.Laid.{Adds}
use Rattle.md_text.proofs.HtmlIds.{Counts}
use Rattle.md_safe.proofs.ReadingNodes.{block-node}
use Rattle.std.proofs.lemmas.Bool.{false_from_ne_true}

-- the facts about a node that isn't transparent
pub record Stands (d : Document) (p : Place) (name : Name) : Type 0 where
  pub solid : is_transparent name ≡ false
  pub whole : (is_part name || is_source name) ≡ false
  pub stands : (is_transparent name || may_stand Blocks name) ≡ true
  pub fit : IsFit d.context.bytes name p.start p.end p.children
  pub built : IsBuilt d.context.bytes (content_inside Blocks name) p.children
  pub ready : Ready (read_in d) p.around p.before Blocks
  pub within : Ready (read_in d) (inner_around d p name) (inner_before p name)
      (content_inside Blocks name)
  pub known : Means (read_in d) (inner_around d p name) (content_inside Blocks name)
      p.children (inner_of d p name)

-- the parts of a heading whose underline comes later
abbrev pub is_setext : Name → Bool
is_setext HeadingSetextText = true
is_setext HeadingSetextUnderlineSequence = true
is_setext _ = false

-- a name with a rule of its own
abbrev pub is_special : Name → Bool
is_special name = is_setext name || (is_call name || named GfmFootnoteDefinition name)

-- no other name than these waits for an underline after it, or keeps it waiting
no_wait : (name : Name) → is_setext name ≡ false → is_blocks (content_of name Blocks) ≡ true →
    (waits : Bool) →
    waits_past waits name ≡ false
no_wait name other blocks waits = grind arith

-- what a name of no rule of its own is
pub record IsPlain (name : Name) : Type 0 where
  pub setext : is_setext name ≡ false
  pub call : is_call name ≡ false
  pub footnote : named GfmFootnoteDefinition name ≡ false

-- it prints what has the id so often, if its children do
plain-prints : {d : Document} {w : List ℕ} {p : Place} {name : Name} {n : ℕ} → Stands d p name →
    IsPlain name → Inside (counted_in d w n) (at_of d p name) Blocks name
    (inner_of d p name).pieces → Adds d.context.ending (Counts w n) (here_of d p name).pieces
plain-prints {d = d} {w = w} {p = p} {name = name} {n = n} k plain within = block-node (counted_in d
    w n) (at_of d p name) name k.solid k.whole (inner_of d p name).pieces (grind arith)

-- a node in which blocks stand
pub around-blocks : {d : Document} {w : List ℕ} {p : Place} {name : Name} {m : ℕ} (waits : Bool) →
    Stands d p name → IsPlain name → is_blocks (content_of name Blocks) ≡ true →
    Below d w p name false 0 → Costs d w p.before m (waits_past waits name) (here_of d p name)
around-blocks {d} {w} {p} {name} waits k plain blocks b = record {
  body = b.body;
  left = 0;
  notes = b.notes;
  prints = plain-prints k plain (rw (is_blocks-same (content_of name Blocks) blocks) b.prints);
  heading = rw (no_wait name plain.setext blocks waits) tt;
  texts = no-footnote d w b.notes p name plain.footnote b.texts;
  few = omega (b.few, cost-least d w p name, arith);
}

none_here : (content : Content) (name : Name) → (is_transparent name || may_stand content name)
    ≡ true → is_blocks content ≡ false → named GfmFootnoteDefinition name ≡ false
none_here content name stands other = grind arith

-- no footnote is defined but among blocks
pub no_footnotes : (d : Document) (content : Content) (forest : Forest) (around : Surroundings)
    (before : Before) → is_blocks content ≡ false → IsBuilt d.context.bytes content forest →
    (outcome d.context around before forest).footnotes ≡ []
no_footnotes d content Empty around before other built = refl
no_footnotes d content (Node name start end children rest) around before other built =
    let p : Place = place_at around before start end children rest in
    let next : Before = before_next (at_of d p name) name (here_of d p name) in
    let none : is_blocks content ≡ true → ⊥ = λ h. lie (sym other ∙ h) in
    let inner = no_footnotes d (content_inside content name) children (inner_around d p name)
    (inner_before p name) (false_from_ne_true _ (λ h. none (inside-blocks content name h))) built.2
    in
    let later = no_footnotes d (content_after_node content name children) rest around next
    (false_from_ne_true _ (asked-after-node ⊥ content name children none)) built.3 in
    rw (inner, later, none_here content name built.0 other) refl

-- a node in which something else stands
pub around-others : {d : Document} {w : List ℕ} {p : Place} {name : Name} {m : ℕ} (waits : Bool) →
    Stands d p name → IsPlain name → is_blocks (content_inside Blocks name) ≡ false →
    Waiting w waits m p.before.heading → Costs d w p.before m
    (waits_past waits name) (here_of d p name)
around-others {d} {w} {p} {name} {m} waits k plain blocks h =
    let counted = means (counted_in d w 0) p.children (inner_around d p name) (inner_before p name)
    (content_inside Blocks name) k.built (grind arith) in
    record {
      body = 0;
      left = m;
      notes = 0;
      prints = plain-prints k plain (inside-means (at_of d p name) Blocks name k.solid k.stands
          k.fit k.built counted);
      heading = grind arith;
      texts = grind (arith, no-footnote, no_footnotes);
      few = omega arith;
    }
