-- The section of footnotes has a reading: its heading, its items and their ways back, which are
-- before the end of a footnote's last paragraph.
use Rattle.std.proofs.Common.{◌≡◌, ℕ, ◌≤◌, ◌-◌, Bool, true, List, [], ◌∷◌, ◌++◌, length, take, drop}
use Rattle.std.proofs.Common.{refl, sym, ap, ◌∙◌, subst, arith, append_assoc, append-nil, codes}
use Rattle.std.proofs.Common.{eqb-true, length-drop}
use Rattle.std.specs.Prelude.{bytes_eq, None, option_map, find, string_bytes}
use Rattle.std.proofs.lemmas.Bool.{cond_both, and_parts, and_from}
use Rattle.std.proofs.lemmas.List.{take-append-drop, drop-append-le}
use Rattle.std.proofs.lemmas.Slice.Eq.{bytes_eq-Decides}
use Rattle.md_text.specs.Html.{HasReadingWith, Attribute, is_tag, printed_elements}
use Rattle.md_text.specs.Laws.{is_line_ends}
use Rattle.md_text.proofs.HtmlJoin.{text, join, nothing}
use Rattle.md_meaning.specs.Meaning.Layout.{Piece, Text, Needed, Forced}
use Rattle.md_meaning.specs.Meaning.Footnotes.{unended_length, backreferences, section, place_among}
use Rattle.md_meaning.specs.Meaning.Footnotes.{body, option_or, id_of, item, distinct, count_of}
use Rattle.md_safe.proofs.Tags.{plain_of, Claim, adds-flat, adds-before, adds-after, adds-escaped}
use Rattle.md_safe.proofs.Tags.{attribute, Turns, TurnsTag, Takes, Bracket, adds-turned}
use Rattle.md_safe.proofs.Tags.{bracket-tag, element-read, adds-framed, adds-framed_flat}
use Rattle.md_safe.proofs.Tags.{framed-around, framed-needed, framed-forced, takes-escaped}
use Rattle.md_safe.proofs.Laid.{Adds, adds-text, adds-needed, escaped_beside, adds-all}
use Rattle.md_safe.proofs.Laid.{adds-nothing, adds-forced, IsBeside}
use Rattle.md_safe.proofs.Spot.{Setting, Prints, PassesIds, IsWhole}
use Rattle.md_safe.proofs.FlowNodes.{Reads}
use Rattle.std.specs.Option.{option_map_or}
use Rattle.std.specs.List.{flat_map}
use Rattle.md_text.specs.declared.options.CompileOptions.{CompileOptions}
use Rattle.md_meaning.specs.Meaning.At.{Footnote, Context}
use Rattle.md_meaning.specs.FootnoteHeading.{tag_of, attributes_of}
use Rattle.md_safe.proofs.Texts.{Escaped}
use Rattle.md_safe.proofs.Calls.{label-escaped, id-escaped, backreferences-read, reads-text}
use Rattle.md_safe.proofs.BlockNodes.{holds-none}
use Rattle.md_safe.proofs.Findings.{AreTexts, AreRead}

-- at the end of a text there are only CR and LF
pub rest-ends : (text : List ℕ) → is_line_ends (drop (unended_length text) text) ≡ true
rest-ends [] = refl
rest-ends (byte ∷ bytes) = grind (arith, cond_both, and_parts, and_from, eqb-true, rest-ends bytes)

-- the last paragraph of a text takes a space and something else before its end
abbrev pub TakesBack : (List ℕ → Type 0) → (List ℕ → Type 0) → Type 0
TakesBack Q B =
    (before endings back : List ℕ) → is_line_ends endings ≡ true →
    Q (before ++ codes "</p>" ++ endings) → B back →
    Q (before ++ (32 ∷ back) ++ codes "</p>" ++ endings)

-- where a paragraph ends a text, the ways back stand before its end
in_paragraph : (Q B : List ℕ → Type 0) → TakesBack Q B → (x back : List ℕ) → Q x → B back →
    bytes_eq (drop (unended_length x - 4) (take (unended_length x) x)) (codes "</p>") ≡ true →
    Q (take (unended_length x - 4) x ++ ((32 ∷ back) ++ drop (unended_length x - 4) x))
in_paragraph Q B takes x back r rb h =
    let m : ℕ = unended_length x in
    let n : ℕ = m - 4 in
    let endings : List ℕ = drop m x in
    let tag : drop n (take m x) ≡ codes "</p>" =
    (bytes_eq-Decides (drop n (take m x)) (codes "</p>")).0 h in
    let fits : n ≤ length (take m x) = omega (arith, length-drop n (take m x), ap length tag) in
    let last : drop n x ≡ codes "</p>" ++ endings = ap (λ y. drop n y) (sym (take-append-drop m x))
    ∙ drop-append-le n (take m x) endings fits ∙ ap (λ y. y ++ endings) tag in
    let cut : x ≡ take n x ++ codes "</p>" ++ endings =
    grind (arith, take-append-drop, append_assoc) in
    rw last (simp append_assoc at (takes (take n x) endings back (rest-ends x) (subst Q cut r) rb))

-- the ways back, there or on a line of their own
pub adds-body : (Q B : List ℕ → Type 0) {ending : List ℕ} → TakesBack Q B → (x back : List ℕ) →
    Q x → B back → Adds ending Q (Text x ∷ Needed ∷ Text back ∷ []) → Adds ending Q (body x back)
adds-body Q B {ending} takes x back r rb after =
    let n : ℕ = unended_length x - 4 in
    let split : List Piece = Text (take n x) ∷ Text (codes " ") ∷ Text back ∷ Text (drop n x) ∷ []
    in
    cond_both _ _ _ (Adds ending Q) (λ is. adds-flat refl (subst Q (grind (arith, append-nil))
    (in_paragraph Q B takes x back r rb is))) (λ _. after)

pub body-prints : (s : Setting) (x back : List ℕ) → Reads s x → HasReadingWith s.p.test back →
    Prints s (Reads s) (body x back)
body-prints s x back r rb = adds-body (Reads s) (HasReadingWith s.p.test)
    (λ before endings back h q rb. s.p.takes before endings (32 ∷ back) h q (join s.p.test (32 ∷ [])
    back (text s.p.test (32 ∷ []) refl) rb)) x back r rb (adds-after s.p (adds-text r) (adds-before
    (plain_of s.p) (adds-escaped s.p (adds-needed escaped_beside s.ending)) (adds-text rb)))

-- an element before the content of brackets
pub turn-after : {Q R S : List ℕ → Type 0} {o c : List ℕ} (h : List ℕ) → Turns R S o c →
    ((x : List ℕ) → Q x → R (h ++ x)) → Turns Q S (o ++ h) c
turn-after h bracket grows = grind (arith, append_assoc)

abbrev pub heading_label_of : CompileOptions → List ℕ
heading_label_of options =
    option_or (option_map string_bytes options.gfm_footnote_label) (codes "Footnotes")

-- the section's tag and its heading
abbrev pub heading_text : List ℕ → List ℕ → List ℕ → List ℕ
heading_text tag attributes label =
    codes "<section data-footnotes=\"\" class=\"footnotes\"><"
    ++ (tag ++ (codes " id=\"footnote-label\" " ++ (attributes
    ++ (codes ">" ++ (label ++ (codes "</" ++ (tag ++ codes ">")))))))

heading-bracket : (s : Setting) (label : List ℕ) → PassesIds s.p.test → Escaped label →
    Bracket s.p (heading_text (codes "h2") (codes "class=\"sr-only\"") label) (codes "</section>")
heading-bracket s label ids h =
    let class : List ℕ → Attribute = attribute (codes "class") in
    let notes = s.test.other (codes "data-footnotes") [] refl in
    let footnotes = s.test.other (codes "class") (codes "footnotes") refl in
    let id = ids (codes "footnote-label") in
    let only = s.test.other (codes "class") (codes "sr-only") refl in
    let heading = (element-read (plain_of s.p) (codes "h2")).tag (attribute (codes "id") (codes
    "footnote-label") ∷ class (codes "sr-only") ∷ []) label refl (rw (id, only) refl) (text s.p.test
    label h) in
    turn-after _ ((bracket-tag s.p (codes "section")).tag (attribute (codes "data-footnotes") [] ∷
    class (codes "footnotes") ∷ []) refl (rw (notes, footnotes) refl)) (λ x r. s.p.before _ x
    heading r)

-- an item
pub li_id : (v : List ℕ) → Escaped v →
    is_tag printed_elements (codes "li") (attribute (codes "id") v ∷ []) ≡ true
li_id v h = rw h refl

abbrev pub item_tag : List ℕ → List ℕ
item_tag v = codes "<li id=\"" ++ (v ++ (codes "\">" ++ []))

pub item-turns : {test : Attribute → Bool} {Q R : List ℕ → Type 0} →
    TurnsTag test Q R (codes "li") → (v : List ℕ) → test (attribute (codes "id") v) ≡ true →
    Escaped v → Turns Q R (item_tag v) (codes "</li>")
item-turns turns v passes h = simp append_assoc at
    (turns.tag (attribute (codes "id") v ∷ []) (li_id v h) (cc passes))

-- the text of a footnote
abbrev pub text_among : List Footnote → List ℕ → List ℕ
text_among footnotes identifier =
    option_map_or (λ footnote. footnote.text)
    (find (λ footnote. bytes_eq footnote.identifier identifier) footnotes) []

pub texts-among : (Q : List ℕ → Type 0) → Q [] → (footnotes : List Footnote)
    (identifier : List ℕ) → AreTexts Q footnotes → Q (text_among footnotes identifier)
texts-among Q none [] identifier h = none
texts-among Q none (footnote ∷ others) identifier h =
    grind (arith, cond_both, texts-among Q none others identifier h.1)

-- the id of a footnote, and the ways back from it
abbrev pub note_id : Context → List ℕ → List ℕ
note_id context identifier =
    id_of context.options (codes "fn-") identifier (place_among (distinct context.calls) identifier)

abbrev pub backs_of : Context → List ℕ → List ℕ
backs_of context identifier =
    backreferences context.options identifier (place_among (distinct context.calls) identifier)
    (count_of context.calls identifier)

pub adds-item : {W Q R : List ℕ → Type 0} → IsBeside W → Takes W Q → Takes W R →
    (context : Context) → W context.ending → (footnotes : List Footnote) (identifier : List ℕ) →
    Turns Q R (item_tag (note_id context identifier)) (codes "</li>") →
    Adds context.ending Q (body (text_among footnotes identifier) (backs_of context identifier)) →
    Adds context.ending R (item context footnotes identifier)
adds-item beside takes stays context h footnotes identifier turn a =
    let v : List ℕ = note_id context identifier in
    let opening : List Piece = Text (codes "<li id=\"") ∷ Text v ∷ Text (codes "\">") ∷ [] in
    adds-turned takes stays turn (framed-around {ys = opening} (adds-forced h) (adds-flat refl refl)
    (adds-forced h)) a (framed-needed beside h)

pub item-prints : (s : Setting) (q : Claim) (footnotes : List Footnote) (identifier : List ℕ) →
    Turns s.p.holds q.holds (item_tag (note_id s.context identifier)) (codes "</li>") →
    Reads s (text_among footnotes identifier) → Prints s
    q.holds (item s.context footnotes identifier)
item-prints s q footnotes identifier turn r = adds-item escaped_beside (takes-escaped s.p)
    (takes-escaped q) s.context s.ending footnotes identifier turn (body-prints s
    (text_among footnotes identifier) (backs_of s.context identifier) r (backreferences-read s.test
    (reads-text s.p.test) (reads-text s.p.test) (element-read (plain_of s.p) (codes "a"))
    (element-read (plain_of s.p) (codes "sup")) identifier
    (place_among (distinct s.context.calls) identifier) (count_of s.context.calls identifier)))

-- the beginning of the section
abbrev head_texts : CompileOptions → List Piece
head_texts options =
    Text (codes "<section data-footnotes=\"\" class=\"footnotes\"><") ∷ Text (tag_of options)
    ∷ Text (codes " id=\"footnote-label\" ") ∷ Text (attributes_of options) ∷ Text (codes ">")
    ∷ Text (heading_label_of options)
    ∷ Text (codes "</") ∷ Text (tag_of options) ∷ Text (codes ">") ∷ []

-- items between the tags of the list and of the section
pub adds-section : {W I Q R : List ℕ → Type 0} → IsBeside W → Takes W I → Takes W Q → Takes W R →
    (context : Context) → W context.ending → Turns I Q (codes "<ol>") (codes "</ol>") → Turns Q R
    (heading_text (codes "h2") (codes "class=\"sr-only\"") (heading_label_of context.options))
    (codes "</section>") → context.options.gfm_footnote_label_tag_name ≡ None →
    context.options.gfm_footnote_label_attributes ≡ None → R [] → (footnotes : List Footnote) →
    Adds context.ending I (flat_map (item context footnotes) (distinct context.calls)) →
    Adds context.ending R (section context footnotes)
adds-section {Q =
    Q} {R = R} beside takes stays ends context h list turn no_tag no_attributes none footnotes
    a =
    let items : List Piece = flat_map (item context footnotes) (distinct context.calls) in
    let ol : List Piece = Forced ∷ Text (codes "<ol>") ∷ [] in
    let end : List Piece = Forced ∷ Text (codes "</ol>") ∷ [] in
    let last : List Piece = Forced ∷ Text (codes "</section>") ∷ Forced ∷ [] in
    let heads : List Piece = head_texts context.options in
    let turns : Turns Q R (heading_text (tag_of context.options) (attributes_of context.options)
    (heading_label_of context.options)) (codes "</section>") = rw (no_tag, no_attributes) turn in
    cond_both _ _ _ (Adds context.ending R) (λ _. subst
    (λ x. Adds context.ending R ((Needed ∷ heads) ++ (ol ++ x))) (append_assoc items end last)
    (adds-turned stays ends turns
    (adds-framed_flat beside heads refl (adds-needed beside h)) (adds-turned takes stays list
    (framed-forced beside h) a (framed-forced beside h))
    (adds-framed (adds-forced h) (adds-forced h)))) (λ _. adds-nothing none)

-- the same of a claim
pub section-around : (s : Setting) (q : Claim) → Turns s.p.holds q.holds (heading_text (codes "h2")
    (codes "class=\"sr-only\"") (heading_label_of s.context.options)) (codes "</section>") →
    s.context.options.gfm_footnote_label_tag_name ≡ None →
    s.context.options.gfm_footnote_label_attributes ≡ None → (footnotes : List Footnote) →
    Prints s (Reads s) (flat_map (item s.context footnotes) (distinct s.context.calls)) →
    Prints s q.holds (section s.context footnotes)
section-around s q turn no_tag no_attributes footnotes a = adds-section escaped_beside
    (takes-escaped s.p) (takes-escaped s.p) (takes-escaped q) s.context s.ending ((bracket-tag s.p
    (codes "ol")).tag [] refl refl) turn no_tag no_attributes (grind (arith, nothing)) footnotes a

pub section-prints : (s : Setting) → IsWhole s.p → s.context.options.gfm_footnote_label_tag_name
    ≡ None → s.context.options.gfm_footnote_label_attributes ≡ None → (footnotes : List Footnote) →
    AreRead s footnotes → Prints s (Reads s) (section s.context footnotes)
section-prints s whole no_tag no_attributes footnotes h = section-around s s.p (heading-bracket s
    (heading_label_of s.context.options) whole.ids (label-escaped s.context.options)) no_tag
    no_attributes footnotes (adds-all (record { none = holds-none s; both = whole.both })
    (λ identifier. item-prints s s.p footnotes identifier (item-turns (bracket-tag s.p (codes "li"))
    (note_id s.context identifier) (whole.ids (note_id s.context identifier)) (id-escaped
    s.context.options (codes "fn-") identifier (place_among (distinct s.context.calls) identifier)
    refl)) (texts-among (Reads s) (holds-none s) footnotes identifier h))
    (distinct s.context.calls))
