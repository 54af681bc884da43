-- How often an id stands in the section of footnotes, and in a document: at most once.
use Rattle.std.proofs.Common.{◌≡◌, ℕ, ◌+◌, ◌≤◌, ◌<◌, ◌^◌, true, false, List, [], ◌∷◌, ◌++◌, length}
use Rattle.std.proofs.Common.{refl, ap, arith, append_assoc, codes, bytes_eq}
use Rattle.std.specs.Prelude.{Some, find}
use Rattle.std.specs.Option.{option_map_or}
use Rattle.std.proofs.lemmas.Bool.{or_parts, cond_both}
use Rattle.md_text.proofs.HtmlJoin.{join}
use Rattle.md_text.proofs.HtmlNames.{printed-element}
use Rattle.md_base.specs.Tree.{Forest}
use Rattle.md_text.specs.References.{read_back}
use Rattle.md_text.proofs.HtmlIds.{occurs, occurs-append, Counts, counts-more, counts-join}
use Rattle.md_text.proofs.HtmlIds.{counts-enclosed}
use Rattle.std.specs.List.{flat_map}
use Rattle.md_meaning.specs.Meaning.Inherited.{outermost}
use Rattle.md_meaning.specs.Meaning.At.{Footnote}
use Rattle.md_meaning.specs.Meaning.Before.{nothing_before}
use Rattle.md_meaning.specs.Meaning.Footnotes.{id_of, distinct, place_among, item, section}
use Rattle.md_meaning.specs.Meaning.Layout.{layout}
use Rattle.md_meaning.specs.Meaning.Nodes.{Outcome, outcome}
use Rattle.md_content.specs.Built.{Blocks, IsBuilt}
use Rattle.md_content.specs.Underlined.{waits_after, IsUnderlined}
use Rattle.md_meaning.proofs.Identifiers.{is_in, Apart, same, distinct-apart, bytes_eq-sym}
use Rattle.md_safe.specs.Options.{KeepsGrammar}
use Rattle.md_safe.proofs.Texts.{Escaped}
use Rattle.md_safe.proofs.Tags.{Claim, Turns, bracket-tag, attribute}
use Rattle.md_safe.proofs.Laid.{adds-append, adds-nothing, adds-alone}
use Rattle.md_safe.proofs.Calls.{label-escaped, id-escaped}
use Rattle.md_safe.proofs.Spot.{Setting, Prints}
use Rattle.md_safe.proofs.Section.{turn-after, li_id, item-prints, section-around, text_among}
use Rattle.md_safe.proofs.Section.{heading_label_of}
use Rattle.md_safe.proofs.Costs.{counts-heading, TextsCount, Document, counted_in, counts-none}
use Rattle.md_safe.proofs.Costs.{Costs}
use Rattle.md_safe.proofs.BlockNodes.{holds-none}
use Rattle.md_safe.proofs.CountedForest.{spent}
use Rattle.md_safe.proofs.NumberedIds.{ids_after}
use Rattle.md_safe.proofs.IdsOnce.{note_ids, label_id, document-once}
use Rattle.md_safe.proofs.Insides.{blocks-suit}

-- the texts of the footnotes with some identifiers
abbrev TextsFor : List ℕ → ℕ → List Footnote → List (List ℕ) → Type 0
TextsFor w n footnotes [] = Unit {0}
TextsFor w n footnotes (identifier ∷ others) =
    (m : ℕ) × (k : ℕ) × (m + k ≤ n) × Counts w m (text_among footnotes identifier)
    × TextsFor w k footnotes others

for-more : (w : List ℕ) (n m : ℕ) (footnotes : List Footnote) (identifiers : List (List ℕ)) →
    n ≤ m →
    TextsFor w n footnotes identifiers → TextsFor w m footnotes identifiers
for-more w n m footnotes [] more h = tt
for-more w n m footnotes (identifier ∷ others) more h = grind arith

-- where there are none
for-none : (w : List ℕ) (identifiers : List (List ℕ)) → TextsFor w 0 [] identifiers
for-none w [] = tt
for-none w (identifier ∷ others) = (0, 0, omega arith, counts-none w, for-none w others)

-- one footnote more that no identifier is for
for-others : (w : List ℕ) (n : ℕ) (footnote : Footnote) (footnotes : List Footnote)
    (identifiers : List (List ℕ)) → is_in footnote.identifier identifiers ≡ false →
    TextsFor w n footnotes identifiers → TextsFor w n (footnote ∷ footnotes) identifiers
for-others w n footnote footnotes [] none h = tt
for-others w n footnote footnotes (identifier ∷ others) none h =
    grind (arith, or_parts, bytes_eq-sym, for-others w h.1 footnote footnotes others)

-- one footnote more
for-one : (w : List ℕ) (m k : ℕ) (footnote : Footnote) (footnotes : List Footnote)
    (identifiers : List (List ℕ)) →
    Apart identifiers → Counts w m footnote.text → TextsFor w k footnotes identifiers →
    TextsFor w (m + k) (footnote ∷ footnotes) identifiers
for-one w m k footnote footnotes [] apart own h = tt
for-one w m k footnote footnotes (identifier ∷ others) apart own h =
    cond_both (bytes_eq footnote.identifier identifier) (Some footnote)
    (find (λ f. bytes_eq f.identifier identifier) footnotes)
    (λ found. (i : ℕ) × (j : ℕ) × (i + j ≤ m + k)
    × Counts w i (option_map_or (λ (f : Footnote). f.text) found [])
    × TextsFor w j (footnote ∷ footnotes) others) (λ e. (
      m,
      h.1,
      omega (h.2, arith),
      own,
      for-others w h.1 footnote footnotes others (grind (arith, same)) h.4,
    )) (grind (arith, for-one w m h.1 footnote footnotes others apart.1 own h.4))

texts-for : (w : List ℕ) (n : ℕ) (footnotes : List Footnote) (identifiers : List (List ℕ)) →
    Apart identifiers →
    TextsCount w n footnotes → TextsFor w n footnotes identifiers
texts-for w n [] identifiers apart h =
    for-more w 0 n [] identifiers (omega arith) (for-none w identifiers)
texts-for w n (footnote ∷ footnotes) identifiers apart h =
    for-more w (h.0 + h.1) n (footnote ∷ footnotes) identifiers h.2 (for-one w h.0 h.1 footnote
    footnotes identifiers apart h.3 (texts-for w h.1 footnotes identifiers apart h.4))

-- an item's tags around a text
item-turn : (d : Document) (w : List ℕ) (n : ℕ) (v : List ℕ) → Escaped v → Turns (Counts w n)
    (Counts w (occurs w (read_back v ∷ []) + n))
    (codes "<li id=\"" ++ (v ++ (codes "\">" ++ []))) (codes "</li>")
item-turn d w n v h =
    let hit : ℕ = occurs w (read_back v ∷ []) in
    record {
      turn = λ x held. simp append_assoc (simp append_assoc at (counts-enclosed w n hit
          (codes "li") (attribute (codes "id") v ∷ []) x (printed-element (codes "li")
          (attribute (codes "id") v ∷ []) (li_id v h)) (omega arith) held));
    }

-- the items
items-counted : (d : Document) (w : List ℕ) (footnotes : List Footnote) (n : ℕ)
    (identifiers : List (List ℕ)) → TextsFor w n footnotes identifiers → Prints (counted_in d w 0)
    (Counts w (occurs w (note_ids d.context.options d.context.calls identifiers)
    + n)) (flat_map (item d.context footnotes) identifiers)
items-counted d w footnotes n [] texts = grind (arith, adds-nothing, counts-more, counts-none)
items-counted d w footnotes n (identifier ∷ others) texts =
    let number : ℕ = place_among (distinct d.context.calls) identifier in
    let id : List ℕ = id_of d.context.options (codes "fn-") identifier number in
    let hit : ℕ = occurs w (read_back id ∷ []) in
    let later : ℕ = occurs w (note_ids d.context.options d.context.calls others) in
    let total : ℕ = occurs w (note_ids d.context.options d.context.calls (identifier ∷ others)) + n
    in
    adds-append (λ x y a b. counts-more w _ _ _ (omega (
      occurs-append w (read_back id ∷ []) (note_ids d.context.options d.context.calls others),
      texts.2,
      arith,
    )) (counts-join w (hit + texts.0) (later + texts.1) x y a b)) (item-prints
    (counted_in d w texts.0) (counted_in d w (hit + texts.0)).p footnotes identifier (item-turn d w
    texts.0 id (id-escaped d.context.options (codes "fn-") identifier number refl)) texts.3)
    (items-counted d w footnotes texts.1 others texts.4)

-- the heading, and the tags of the section around its items
section-counted : (d : Document) (w : List ℕ) → KeepsGrammar d.context.options →
    (footnotes : List Footnote) (n : ℕ) → TextsFor w n footnotes (distinct d.context.calls) → Prints
    (counted_in d w 0) (Counts w (occurs w label_id + (occurs w (note_ids d.context.options
    d.context.calls (distinct d.context.calls)) + n))) (section d.context footnotes)
section-counted d w keeps footnotes n texts =
    let k : ℕ = occurs w (note_ids d.context.options d.context.calls (distinct d.context.calls)) + n
    in
    let s : Setting = counted_in d w k in
    let q : Claim = (counted_in d w (occurs w label_id + k)).p in
    let label : List ℕ = heading_label_of d.context.options in
    section-around s q (turn-after _ ((bracket-tag q (codes "section")).tag (attribute
    (codes "data-footnotes") [] ∷ attribute (codes "class") (codes "footnotes") ∷ []) refl refl)
    (λ x held. counts-join w (occurs w label_id) k (codes
    "<h2 id=\"footnote-label\" class=\"sr-only\">" ++ (label ++ codes "</h2>")) x
    (counts-heading w label (label-escaped d.context.options)) held)) keeps.usual_tag
    keeps.usual_attributes footnotes (items-counted d w footnotes n (distinct d.context.calls)
    texts)

-- an id occurs in a document at most as often as its heading, its footnotes and its calls have it
pub document-counts : (d : Document) (w : List ℕ) (document : Forest) →
    KeepsGrammar d.context.options → IsBuilt d.context.bytes Blocks document →
    IsUnderlined false document → (outcome d.context outermost nothing_before document).calls
    ≡ d.context.calls → Counts w (occurs w label_id + occurs w (note_ids d.context.options
    d.context.calls (distinct d.context.calls)) + occurs w (ids_after d.context.options
    d.context.calls [] d.context.calls)) (layout d.context.ending ((outcome d.context outermost
    nothing_before document).pieces ++ section d.context (outcome d.context outermost
    nothing_before document).footnotes))
document-counts d w document keeps built underlined called =
    let all : Outcome = outcome d.context outermost nothing_before document in
    let b : Costs d w nothing_before 0 (waits_after false document) all =
    grind (arith, spent, blocks-suit, join, holds-none) in
    let noted : ℕ = occurs w (note_ids d.context.options d.context.calls (distinct d.context.calls))
    in
    let rest : ℕ = occurs w label_id + (noted + b.notes) in
    let last : Prints (counted_in d w 0) (Counts w rest) (section d.context all.footnotes) =
    section-counted d w keeps all.footnotes b.notes (grind (arith, texts-for, distinct-apart)) in
    counts-more w _ _ _ (omega (
      b.few,
      ap (λ calls. occurs w (ids_after d.context.options d.context.calls [] calls)) called,
      arith,
    )) (adds-alone {f = Counts w (b.body + rest)}
    (adds-append (counts-join w b.body rest) b.prints last))

-- each id stands in a document once at most
pub document-counted : (d : Document) (w : List ℕ) (document : Forest) →
    KeepsGrammar d.context.options → d.context.options.gfm_footnote_number_ids ≡ true →
    IsBuilt d.context.bytes Blocks document → IsUnderlined false document →
    length d.context.calls + 2 < 2 ^ 64 →
    (outcome d.context outermost nothing_before document).calls ≡ d.context.calls → Counts w 1
    (layout d.context.ending ((outcome d.context outermost nothing_before document).pieces
    ++ section d.context (outcome d.context outermost nothing_before document).footnotes))
document-counted d w document keeps on built underlined small called = counts-more w _ _ _
    (document-once d.context.options on w d.context.calls small)
    (document-counts d w document keeps built underlined called)
