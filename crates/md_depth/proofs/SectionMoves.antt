-- The section of footnotes leaves no element open, and opens five at most beside what the texts of
-- footnotes open.
use Rattle.std.proofs.Common.{◌≡◌, ℕ, ◌+◌, ◌-◌, ◌≤◌, ◌==◌, zero, suc, true, not, List, [], ◌∷◌}
use Rattle.std.proofs.Common.{◌++◌, length, take, drop, refl, ap, sym, ◌∙◌, arith, append_assoc}
use Rattle.std.proofs.Common.{codes, length-drop, inl, inr}
use Rattle.std.specs.Prelude.{None, option_map, bytes_eq, string_bytes}
use Rattle.std.specs.List.{flat_map}
use Rattle.std.specs.Fmt.{decimal}
use Rattle.std.proofs.lemmas.List.{take-append-drop, drop-append-le}
use Rattle.std.proofs.lemmas.Slice.Eq.{bytes_eq-Decides}
use Rattle.std.proofs.lemmas.Bool.{cases_Bool}
use Rattle.md_text.specs.declared.options.CompileOptions.{CompileOptions}
use Rattle.md_text.proofs.EncodeLaws.{is_escaped-encoded}
use Rattle.md_meaning.specs.Meaning.At.{Footnote, Context}
use Rattle.md_meaning.specs.Meaning.Layout.{Piece, Text}
use Rattle.md_meaning.specs.Meaning.Footnotes.{option_or, id_of, call_id, backreference, body, item}
use Rattle.md_meaning.specs.Meaning.Footnotes.{backreferences, unended_length, section_start}
use Rattle.md_meaning.specs.Meaning.Footnotes.{section, distinct, place_among, count_of}
use Rattle.md_meaning.specs.FootnoteHeading.{tag_of, attributes_of}
use Rattle.md_safe.proofs.Texts.{Escaped, decimal-escaped}
use Rattle.md_safe.proofs.Calls.{label-escaped, id-escaped, call_id-escaped}
use Rattle.md_safe.proofs.Section.{heading_label_of, text_among}
use Rattle.md_text.proofs.HtmlNames.{escaped-angle}
use Rattle.md_depth.proofs.Machine.{Leads, ◌▹◌, leads-either, leads-quiet, leads-open, leads-close}
use Rattle.md_depth.proofs.Moves as moves
use Rattle.md_depth.proofs.Moves.{Moves, ◌▸◌, none, needed, forced, plain, part, open_tag}
use Rattle.md_depth.proofs.Moves.{close_tag, close_line, kept, choose}
use Rattle.md_depth.proofs.Insertion.{leads-put}
use Rattle.md_depth.proofs.ForestMoves.{TextsLead}

-- ---- the ways back

back-leads : (options : CompileOptions) (identifier : List ℕ) (number occurrence : ℕ) →
    Leads 0 0 2 (backreference options identifier number occurrence)
back-leads options identifier number occurrence =
    let id : List ℕ = call_id options identifier number occurrence in
    let label : List ℕ = option_or (option_map string_bytes options.gfm_footnote_back_label)
    (codes "Back to content") in
    leads-open (codes "<a href=\"#") (λ l t. refl) (omega arith)
    ▹ leads-quiet id (escaped-angle id (call_id-escaped options identifier number occurrence))
    ▹ leads-quiet (codes "\" data-footnote-backref=\"\" aria-label=\"") refl
    ▹ leads-quiet label (escaped-angle label (grind (arith, is_escaped-encoded)))
    ▹ leads-quiet (codes "\" class=\"data-footnote-backref\">") refl
    ▹ leads-quiet (226 ∷ 134 ∷ 169 ∷ []) refl
    ▹ leads-either (occurrence == 1) (leads-quiet [] refl)
    (leads-open (codes "<sup>") (λ l t. refl) (omega arith)
    ▹ leads-quiet (decimal occurrence)
    (escaped-angle (decimal occurrence) (decimal-escaped occurrence))
    ▹ leads-close (codes "</sup>") (λ l t. refl))
    ▹ leads-close (codes "</a>") (λ l t. refl)

backs-lead : (options : CompileOptions) (identifier : List ℕ) (number count : ℕ) →
    Leads 0 0 2 (backreferences options identifier number count)
backs-lead options identifier number zero = leads-quiet [] refl
backs-lead options identifier number (suc count) =
    backs-lead options identifier number count
    ▹ leads-either (count == 0) (leads-quiet [] refl) (leads-quiet (codes " ") refl)
    ▹ back-leads options identifier number (suc count)

-- ---- a footnote's text with the ways back

-- where a paragraph ends it, its end tag is cut off whole
cut-off : (x : List ℕ) →
    bytes_eq (drop (unended_length x - 4) (take (unended_length x) x)) (codes "</p>") ≡ true →
    (z : List ℕ) × (drop (unended_length x - 4) x ≡ 60 ∷ z)
cut-off x h =
    let m : ℕ = unended_length x in
    let n : ℕ = m - 4 in
    let tag : drop n (take m x) ≡ codes "</p>" = (bytes_eq-Decides _ _).0 h in
    let fits : n ≤ length (take m x) = omega (arith, length-drop n (take m x), ap length tag) in
    let last : drop n x ≡ codes "</p>" ++ drop m x =
    ap (λ y. drop n y) (sym (take-append-drop m x)) ∙ drop-append-le n (take m x) (drop m x) fits
    ∙ ap (λ y. y ++ drop m x) tag in
    (47 ∷ 112 ∷ 62 ∷ drop m x, last)

body-moves : (e : List ℕ) (n a k : ℕ) → Escaped e → (x back : List ℕ) → Leads 0 0 k x →
    Leads 0 0 2 back → a + (k + 2) ≤ n → Moves e n a a (body x back)
body-moves e n a k h x back f g room =
    let end : ℕ = unended_length x - 4 in
    elim (cases_Bool (bytes_eq (drop end (take (unended_length x) x)) (codes "</p>"))) [
      | inl is ↦
          let y : List ℕ = take end x in
          let z = cut-off x is in
          let whole : x ≡ y ++ (60 ∷ z.0) =
          sym (take-append-drop end x) ∙ ap (λ z. y ++ z) z.1 in
          let put : Moves e n a a (Text (y ++ ((32 ∷ back) ++ (60 ∷ z.0))) ∷ []) =
          kept (leads-put k 2 y (32 ∷ back) z.0 (rw whole at f) (leads-quiet (32 ∷ []) refl ▹ g))
          room in
          rw (is, z.1) (record {
            moves = λ s text l t few before. simp append_assoc (put.moves s text l t few before);
          })
      | inr is ↦ rw is (kept f (omega arith) ▸ needed h ▸ kept g (omega arith))
    ]

-- ---- an item, and all

item-moves : (e : List ℕ) (n a k : ℕ) → Escaped e → (context : Context) (footnotes : List Footnote)
    (identifier : List ℕ) → Leads 0 0 k (text_among footnotes identifier) →
    suc a + (k + 2) ≤ n → Moves e n a a (item context footnotes identifier)
item-moves e n a k h context footnotes identifier f room =
    let number : ℕ = place_among (distinct context.calls) identifier in
    let count : ℕ = count_of context.calls identifier in
    let id : List ℕ = id_of context.options (codes "fn-") identifier number in
    forced h ▸ open_tag (codes "<li id=\"") (λ l t. refl) (omega arith)
    ▸ plain id (id-escaped context.options (codes "fn-") identifier number refl)
    ▸ part (codes "\">") refl ▸ forced h
    ▸ body-moves e n (suc a) k h (text_among footnotes identifier)
    (backreferences context.options identifier number count) f
    (backs-lead context.options identifier number count) room
    ▸ close_line (codes "</li>") h (λ l t. refl)

found-leads : (k : ℕ) (footnotes : List Footnote) (identifier : List ℕ) → TextsLead k footnotes →
    Leads 0 0 k (text_among footnotes identifier)
found-leads k [] identifier h = leads-quiet [] refl
found-leads k (footnote ∷ others) identifier h =
    grind (arith, h, found-leads k others identifier h.1)

items-move : (e : List ℕ) (n a k : ℕ) → Escaped e → (context : Context)
    (footnotes : List Footnote) →
    TextsLead k footnotes → suc a + (k + 2) ≤ n → (identifiers : List (List ℕ)) →
    Moves e n a a (flat_map (item context footnotes) identifiers)
items-move e n a k h context footnotes f room [] = none
items-move e n a k h context footnotes f room (identifier ∷ identifiers) =
    item-moves e n a k h context footnotes identifier (found-leads k footnotes identifier f) room
    ▸ items-move e n a k h context footnotes f room identifiers

-- the heading as it is usually written
abbrev head_of : List ℕ → List ℕ → List ℕ → List Piece
head_of tag attributes label =
    Text (codes "<section data-footnotes=\"\" class=\"footnotes\"><") ∷ Text tag
    ∷ Text (codes " id=\"footnote-label\" ") ∷ Text attributes ∷ Text (codes ">") ∷ Text label
    ∷ Text (codes "</") ∷ Text tag ∷ Text (codes ">") ∷ []

two-texts : (e : List ℕ) (n a b : ℕ) (x y : List ℕ) → Moves e n a b (Text (x ++ y) ∷ []) →
    Moves e n a b (Text x ∷ Text y ∷ [])
two-texts e n a b x y f = record {
  moves = λ s text l t few before. rw append_assoc (f.moves s text l t few before);
}

head-moves : (e : List ℕ) (n : ℕ) → 2 ≤ n → (label : List ℕ) → Escaped label →
    Moves e n 0 1 (head_of (codes "h2") (codes "class=\"sr-only\"") label)
head-moves e n room label h =
    two-texts e n 0 2 (codes "<section data-footnotes=\"\" class=\"footnotes\"><") (codes "h2")
    (moves.text (leads-open (codes "<section data-footnotes=\"\" class=\"footnotes\">")
    (λ l t. refl) (omega arith) ▹ leads-open (codes "<h2") (λ l t. refl) room))
    ▸ part (codes " id=\"footnote-label\" ") refl
    ▸ part (codes "class=\"sr-only\"") refl
    ▸ part (codes ">") refl ▸ plain label h
    ▸ two-texts e n 2 1 (codes "</") (codes "h2")
    (close_tag (codes "</h2") (λ l t. refl)) ▸ part (codes ">") refl

start-moves : (e : List ℕ) (n : ℕ) → 2 ≤ n → Escaped e → (options : CompileOptions) →
    options.gfm_footnote_label_tag_name ≡ None → options.gfm_footnote_label_attributes ≡ None →
    Moves e n 0 2 (section_start options)
start-moves e n room h options no_tag no_attributes =
    let head : Moves e n 0 1 (head_of (tag_of options) (attributes_of options)
    (heading_label_of options)) =
    rw (no_tag, no_attributes)
    (head-moves e n room (heading_label_of options) (label-escaped options)) in
    needed h ▸ head ▸ forced h
    ▸ open_tag (codes "<ol>") (λ l t. refl) room

pub section-moves : (e : List ℕ) (n k : ℕ) → Escaped e → (context : Context) →
    context.options.gfm_footnote_label_tag_name ≡ None →
    context.options.gfm_footnote_label_attributes ≡ None → (footnotes : List Footnote) →
    TextsLead k footnotes → k + 5 ≤ n → Moves e n 0 0 (section context footnotes)
section-moves e n k h context no_tag no_attributes footnotes f room =
    choose (not (length context.calls == 0))
    (start-moves e n (omega arith) h context.options no_tag no_attributes
    ▸ items-move e n 2 k h context footnotes f (omega arith) (distinct context.calls)
    ▸ forced h ▸ close_tag (codes "</ol>") (λ l t. refl) ▸ forced h
    ▸ close_tag (codes "</section>") (λ l t. refl) ▸ forced h) none
