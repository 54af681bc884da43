-- What nodes cost whose names have a rule of their own: underlined headings, footnotes, calls. How
-- often an id stands in what nodes mean: at most so often as calls in them have it. The induction
-- is over blocks alone and adds what each node costs; of other contents that of `Forests.antt` is
-- enough.
use Rattle.std.proofs.Common.{append-nil, ◌≡◌, ℕ, suc, ◌+◌, Bool, true, false, not, List, [], ◌∷◌}
use Rattle.std.proofs.Common.{◌++◌, refl, arith, codes, cond, ap, ◌∙◌, subst}
use Rattle.std.specs.Fmt.{decimal}
use Rattle.std.proofs.lemmas.Bool.{cond_both, or_parts}
use Rattle.md_base.specs.declared.event.Name.{Name}
use Rattle.md_base.specs.declared.event.Name.TheVariants as name_variants
use name_variants.{HeadingSetextText, HeadingSetextUnderlineSequence, GfmFootnoteDefinition}
use name_variants.{GfmFootnoteCall}
use Rattle.md_base.specs.Tree.{Forest, Empty, Node}
use Rattle.md_base.specs.Children.{spine_names, or_else}
use Rattle.md_text.specs.References.{read_back}
use Rattle.md_text.proofs.HtmlIds.{occurs, Counts, counts-more, counts-join}
use Rattle.md_meaning.specs.Meaning.At.{identifier_of, Before, At}
use Rattle.md_meaning.specs.Meaning.Footnotes.{distinct, place_among, count_of, id_of, call_id}
use Rattle.md_meaning.specs.Meaning.Layout.{Piece}
use Rattle.md_meaning.specs.Meaning.Blocks.{underline_rank}
use Rattle.md_meaning.specs.Meaning.Spans.{is_at}
use Rattle.md_content.specs.Underlined.{is_underline, waits_past, waits_after, IsUnderlined}
use Rattle.md_content.specs.Built.{Blocks, content_inside, content_of, IsBuilt}
use Rattle.md_safe.proofs.Texts.{decimal-escaped}
use Rattle.md_safe.proofs.Laid.{Adds, adds-nothing, adds-text, adds-alone, adds-append}
use Rattle.md_safe.proofs.Tags.{adds-flat}
use Rattle.md_safe.proofs.Calls.{id-escaped, call_id-escaped, call_tags}
use Rattle.md_safe.proofs.Insides.{is_blocks, is_blocks-same}
use Rattle.md_safe.proofs.Spot.{Setting}
use Rattle.md_safe.proofs.FlowNodes.{setext-fits}
use Rattle.md_safe.proofs.Costs.{through-node, counts-call, Waiting, texts-append, Document, Costs}
use Rattle.md_safe.proofs.Costs.{Place, inner_of, here_of, Below, cost-least, counts-none}
use Rattle.md_safe.proofs.Costs.{no-footnote, counted_in, at_of, cost-parts, read_in, due-append}
use Rattle.md_safe.proofs.Costs.{inner_around, inner_before, place_at}
use Rattle.md_safe.proofs.PlainCosts.{is_special, Stands, IsPlain, around-blocks, around-others}
use Rattle.md_safe.proofs.FlowCases.{heading-node}
use Rattle.md_safe.proofs.ReadingNodes.{reads}
use Rattle.std.specs.Prelude.{Option, Some, None, unwrap_or}
use Rattle.md_base.specs.NameTests.{is_transparent}
use Rattle.md_meaning.specs.declared.surroundings.Surroundings.{Surroundings}
use Rattle.md_meaning.specs.Meaning.Nodes.{Outcome, before_next, outcome}
use Rattle.md_safe.proofs.Contents.{after-blocks}
use Rattle.md_safe.proofs.Following.{second}
use Rattle.md_safe.proofs.Nodes.{not_part}
use Rattle.md_safe.proofs.Findings.{AreFound}
use Rattle.md_safe.proofs.Forests.{Ready, Means, ready-inside, ready-after, means, found-at}
use Rattle.md_safe.proofs.Cases.{cases}

-- a heading's text, which waits for the underline
setext_text : (d : Document) (w : List ℕ) (p : Place) (m : ℕ) →
    Below d w p HeadingSetextText false 0 → Costs d w p.before m
    true (here_of d p HeadingSetextText)
setext_text d w p m b = record {
  body = 0;
  left = b.body;
  notes = b.notes;
  prints = adds-nothing (counts-none w);
  heading = adds-alone b.prints;
  texts = no-footnote d w b.notes p HeadingSetextText refl b.texts;
  few = omega (b.few, cost-least d w p HeadingSetextText, arith);
}

-- a footnote's definition, which prints nothing where it stands
pub footnote : (d : Document) (w : List ℕ) (p : Place) (m : ℕ) →
    Below d w p GfmFootnoteDefinition false 0 → Costs d w p.before m
    false (here_of d p GfmFootnoteDefinition)
footnote d w p m b = record {
  body = 0;
  left = 0;
  notes = b.notes + b.body;
  prints = adds-nothing (counts-none w);
  heading = tt;
  texts = grind (arith, texts-append, adds-alone);
  few = omega (b.few, cost-least d w p GfmFootnoteDefinition, arith);
}

-- the underline of a heading, which prints the text that waits
underline : (d : Document) (w : List ℕ) (p : Place) (m : ℕ) → Counts w m p.before.heading →
    Below d w p HeadingSetextUnderlineSequence false 0 → Costs d w p.before m
    false (here_of d p HeadingSetextUnderlineSequence)
underline d w p m h b =
    let s : Setting = counted_in d w m in
    record {
      body = m;
      left = 0;
      notes = b.notes;
      prints = heading-node (reads s) (underline_rank d.context
          (at_of d p HeadingSetextUnderlineSequence))
          (setext-fits (is_at 45 d.context.bytes p.start.index)) (adds-text h);
      heading = tt;
      texts = no-footnote d w b.notes p HeadingSetextUnderlineSequence refl b.texts;
      few = omega (b.few, cost-least d w p HeadingSetextUnderlineSequence, arith);
    }

-- a call, which prints nothing in an image
pub call : (d : Document) (w : List ℕ) (p : Place) (m : ℕ) → Below d w p GfmFootnoteCall false 0 →
    Costs d w p.before m false (here_of d p GfmFootnoteCall)
call d w p m b =
    let identifier : List ℕ = identifier_of d.context.bytes p.children in
    let number : ℕ = place_among (distinct d.context.calls) identifier in
    let occurrence : ℕ = suc (count_of (p.before.calls ++ (inner_of d p GfmFootnoteCall).calls)
    identifier) in
    let id : List ℕ = call_id d.context.options identifier number occurrence in
    let hit : ℕ = occurs w (read_back id ∷ []) in
    let tags : List Piece = call_tags d.context.options identifier number occurrence in
    record {
      body = hit;
      left = 0;
      notes = b.notes;
      prints = cond_both (not p.around.in_image) tags [] (Adds d.context.ending (Counts w hit)) (λ
          _. adds-flat refl (counts-call w (id_of d.context.options (codes "fn-") identifier number)
          id (decimal number) (id-escaped d.context.options (codes "fn-") identifier number refl)
          (call_id-escaped d.context.options identifier number occurrence) (decimal-escaped
          number))) (grind (arith, adds-nothing, counts-more, counts-none));
      heading = tt;
      texts = no-footnote d w b.notes p GfmFootnoteCall refl b.texts;
      few = omega (b.few, cost-parts d w p GfmFootnoteCall, arith);
    }

-- where blocks stand in each node, what they print is known
abbrev pub BelowBlocks : Document → List ℕ → Place → Name → Bool → ℕ → Type 0
BelowBlocks d w p name waits m =
    is_blocks (content_inside Blocks name) ≡ true → Below d w p name waits m

-- an underline stands where a heading waits
abbrev pub IsAwaited : Bool → Name → Forest → Type 0
IsAwaited waits name children =
    is_underline name ≡ true → (waits ≡ true) × (spine_names children ≡ [])

pub special-spent : (d : Document) (w : List ℕ) (p : Place) (name : Name) (waits : Bool) (m : ℕ) →
    is_special name ≡ true → IsAwaited waits name p.children → Waiting w waits m p.before.heading →
    BelowBlocks d w p name false 0 → Costs d w p.before m (waits_past waits name) (here_of d p name)
special-spent d w p HeadingSetextText waits m is awaited h b = setext_text d w p m (b refl)
special-spent d w p name waits m is awaited h b = grind (arith, underline, call, footnote)

-- what is known where some nodes stand: blocks, each underline where a heading waits for it
pub record Fits (d : Document) (around : Surroundings) (before : Before) (waits : Bool)
    (forest : Forest) : Type 0 where
  pub built : IsBuilt d.context.bytes Blocks forest
  pub ready : Ready (read_in d) around before Blocks
  pub underlined : IsUnderlined waits forest

-- a node that isn't transparent
solid-spent : {d : Document} {w : List ℕ} {p : Place} {name : Name} {m : ℕ} (waits : Bool) →
    Stands d p name → IsAwaited waits name p.children → Waiting w waits m p.before.heading →
    BelowBlocks d w p name false 0 → Costs d w p.before m (waits_past waits name) (here_of d p name)
solid-spent {d} {w} {p} {name} {m} waits k awaited h b = cases (is_special name)
    (λ is. special-spent d w p name waits m is awaited h b) (λ other.
    let first = or_parts _ _ other in
    let later = or_parts _ _ first.1 in
    let plain : IsPlain name =
    record { setext = first.0; call = later.0; footnote = later.1 } in
    cases (is_blocks (content_of name Blocks))
    (λ of. around-blocks waits k plain of (b (same ∙ of)))
    (λ of. around-others waits k plain (same ∙ of) h))
  where
    same : is_blocks (content_inside Blocks name) ≡ is_blocks (content_of name Blocks)
    same = ap (λ b. is_blocks (cond b Blocks (content_of name Blocks))) k.solid

-- what a node costs, transparent or not
node-spent : {d : Document} {w : List ℕ} {p : Place} {name : Name} {waits : Bool} {m : ℕ} →
    (is_transparent name ≡ false → Stands d p name) → Waiting w waits m p.before.heading →
    IsAwaited waits name p.children → BelowBlocks d w p name
    (cond (is_transparent name) waits false) (cond (is_transparent name) m 0) → Costs d w
    p.before m (cond (is_transparent name) (waits_after waits p.children)
    (waits_past waits name)) (here_of d p name)
node-spent {d} {w} {p} {name} {waits} {m} k h awaited b = cond_both (is_transparent name)
    (waits_after waits p.children) (waits_past waits name) (λ after. Costs d w p.before m after
    (here_of d p name)) (λ e. grind (arith, through-node, append-nil)) (λ e. solid-spent waits (k e)
    awaited h (subst (λ t. BelowBlocks d w p name (cond t waits false) (cond t m 0)) e b))

pub spent : (d : Document) (w : List ℕ) (forest : Forest) (around : Surroundings) (before : Before)
    (waits : Bool) (m : ℕ) → Fits d around before waits forest → Waiting w waits m before.heading →
    Costs d w before m (waits_after waits forest) (outcome d.context around before forest)
spent d w Empty around before waits m f h = record {
  body = 0;
  left = m;
  notes = 0;
  prints = adds-nothing (counts-none w);
  heading = h;
  texts = tt;
  few = omega arith;
}
spent d w (Node name start end children rest) around before waits m f h =
    let p : Place = place_at around before start end children rest in
    let t : At = at_of d p name in
    let here : Outcome = here_of d p name in
    let next : Before = before_next t name here in
    let others : Outcome = outcome d.context around next rest in
    let waits' : Bool = cond (is_transparent name) (waits_after waits children)
    (waits_past waits name) in
    let within : Ready (read_in d) (inner_around d p name) (inner_before p name)
    (content_inside Blocks name) = ready-inside name children f.built.0 f.ready in
    let known : Means (read_in d) (inner_around d p name) (content_inside Blocks name) children
    (inner_of d p name) = means (read_in d) children (inner_around d p name) (inner_before p name)
    (content_inside Blocks name) f.built.2 within in
    let own : AreFound (read_in d) Blocks here.found = found-at t name (inner_of d p name).pieces
    f.built.0 f.built.1 f.ready.suits f.built.2 known.prints known.found in
    let k : is_transparent name ≡ false → Stands d p name = grind (arith, not_part, second) in
    let one : Costs d w before m waits' here = node-spent k h f.underlined.0 (λ is. spent d w
    children (inner_around d p name) (inner_before p name) (cond (is_transparent name) waits false)
    (cond (is_transparent name) m 0) (grind (arith, is_blocks-same)) (heading-inside (is_transparent
    name) waits m before.heading h)) in
    let later : Costs d w next one.left (waits_after waits' rest) others = spent d w rest around
    next waits' one.left (record {
      built = rw (after-blocks name children) at f.built.3;
      ready = rw (after-blocks name children) at
          (ready-after t name here f.built.0 f.built.2 own f.ready);
      underlined = f.underlined.2;
    }) one.heading in
    record {
      body = one.body + later.body;
      left = later.left;
      notes = one.notes + later.notes;
      prints = grind (arith, adds-append, counts-join);
      heading = grind (arith, heading-both);
      texts = grind (arith, texts-append);
      few = omega (one.few, later.few, due-append d w before.calls here.calls others.calls, arith);
    }
  where
    heading-both : (later first : Option (List ℕ)) →
        unwrap_or later (unwrap_or first before.heading)
        ≡ unwrap_or (or_else later first) before.heading
    heading-both None first = refl
    heading-both (Some x) first = refl

    heading-inside : (through waits : Bool) (m : ℕ) (x : List ℕ) → Waiting w waits m x →
        Waiting w (cond through waits false) (cond through m 0) (cond through x [])
    heading-inside true waits m x h = h
    heading-inside false waits m x h = tt
