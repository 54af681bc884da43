-- The section of footnotes is flow content: its heading, its items and their ways back, which the
-- last paragraph of flow content takes before its end.
use Rattle.std.proofs.Common.{◌≡◌, ℕ, Bool, ◌==◌, true, List, [], ◌∷◌, ◌++◌, refl, sym, ap, ◌∙◌}
use Rattle.std.proofs.Common.{subst, append_assoc, append-nil, codes, arith}
use Rattle.std.proofs.lemmas.Bool.{and_parts, and_from}
use Rattle.md_base.proofs.Lies.{lie}
use Rattle.md_text.specs.Laws.{is_line_ends}
use Rattle.md_text.specs.Html.{Attribute, Forest, Empty, Text, Void, Element, is_forest, is_tag}
use Rattle.md_text.specs.Html.{elements, written, opening_tag, closing_tag}
use Rattle.md_text.proofs.HtmlPut.{IsMade, made-before}
use Rattle.md_safe.specs.Contents.{Content, Flow, Phrasing, held_in, is_contained, Items}
use Rattle.md_safe.proofs.Stands.{stands-join, stands-nothing, is_held, white_beside, stands-wider}
use Rattle.md_safe.proofs.Stands.{Stands, stands-text, turns-tag, stands-tag, takes-white, IsWhite}
use Rattle.md_safe.proofs.Stands.{stands-enclosed}
use Rattle.std.specs.Prelude.{None}
use Rattle.md_meaning.specs.Meaning.At.{Footnote}
use Rattle.md_meaning.specs.Meaning.Footnotes.{body, item, section, distinct, place_among}
use Rattle.md_meaning.specs.Meaning.Footnotes.{backreferences}
use Rattle.md_safe.proofs.Texts.{Escaped}
use Rattle.md_safe.proofs.Laid.{adds-all, adds-text, adds-needed}
use Rattle.md_safe.proofs.Tags.{attribute, Turns}
use Rattle.md_safe.proofs.Calls.{id-escaped, label-escaped, backreferences-read}
use Rattle.md_safe.proofs.Section.{adds-body, heading_label_of, heading_text, turn-after}
use Rattle.md_safe.proofs.Section.{item-turns, note_id, texts-among, adds-item, adds-section}
use Rattle.md_safe.proofs.Costs.{Document, read_in}
use Rattle.md_safe.proofs.ContainedForests.{lays-white, lays-both, Prints, AreFlow}
use Rattle.md_safe.proofs.Linking.{in_link}

-- a forest with an element among its roots; a text is inserted after the element's children
record Cut (nested : Bool) (x : List ℕ) (f : Forest) (y : List ℕ) : Type 0 where
  front : List ℕ
  name : List ℕ
  attributes : List Attribute
  children : Forest
  rest : Forest
  front_stands : Stands nested Flow front
  tag : is_tag elements name attributes ≡ true
  held : is_held nested Flow name children ≡ true
  forest : is_forest children ≡ true
  rest_forest : is_forest rest ≡ true
  rest_contained : is_contained nested Flow rest ≡ true
  whole : written f ≡ front
      ++ ((opening_tag name attributes ++ written children ++ closing_tag name) ++ written rest)
  made : y ≡ front ++ ((opening_tag name attributes ++ (written children ++ x) ++ closing_tag name)
      ++ written rest)

-- something before a forest that is cut
cut-after : (nested : Bool) (x front : List ℕ) (f rest : Forest) (y : List ℕ) →
    Stands nested Flow front → written f ≡ front ++ written rest → Cut nested x rest y →
    Cut nested x f (front ++ y)
cut-after nested x front f rest y stands whole c = record {
  front = front ++ c.front;
  name = c.name;
  attributes = c.attributes;
  children = c.children;
  rest = c.rest;
  front_stands = stands-join front c.front stands c.front_stands;
  tag = c.tag;
  held = c.held;
  forest = c.forest;
  rest_forest = c.rest_forest;
  rest_contained = c.rest_contained;
  whole = whole ∙ ap (λ w. front ++ w) c.whole ∙ sym (append_assoc front c.front _);
  made = ap (λ w. front ++ w) c.made ∙ sym (append_assoc front c.front _);
}

-- the text of a forest that is contained stands
stands-forest : (nested : Bool) (content : Content) (f : Forest) → is_forest f ≡ true →
    is_contained nested content f ≡ true →
    Stands nested content (written f)
stands-forest nested content f h c = grind arith

cuts : (nested : Bool) (x : List ℕ) → IsMade x (λ f y. is_contained nested Flow f ≡ true → Cut
    nested x f y)
cuts nested x = record {
  texts = λ bytes rest y escaped later contained. cut-after nested x bytes (Text bytes rest) rest y
      (stands-text escaped refl) refl (later contained);
  voids = λ name attributes rest y tag later contained. (let parts = and_parts _ _ contained in
      cut-after nested x (written (Void name attributes Empty)) (Void name attributes rest) rest y
      (stands-forest nested Flow (Void name attributes Empty) (and_from _ _ tag refl) (and_from _ _
      parts.0 refl)) (simp append_assoc) (later parts.1));
  rests = λ name attributes children rest y tag forest later contained. (let parts = and_parts _ _
      contained in
      cut-after nested x (opening_tag name attributes ++ written children ++ closing_tag name)
      (Element name attributes children rest) rest y (subst (Stands nested Flow) ((simp
      append_assoc) ∙ append-nil _) (stands-forest nested Flow (Element name attributes children
      Empty) (and_from _ _ (and_from _ _ tag forest) refl) (and_from _ _ parts.0 refl))) (simp
      append_assoc) (later parts.1));
  insides = λ name attributes children rest tag forest rests contained. (let parts = and_parts _ _
      contained in
      record {
        front = [];
        name = name;
        attributes = attributes;
        children = children;
        rest = rest;
        front_stands = stands-nothing;
        tag = tag;
        held = parts.0;
        forest = forest;
        rest_forest = rests;
        rest_contained = parts.1;
        whole = simp append_assoc;
        made = refl;
      });
}

first_of : {b c : ℕ} {x y : List ℕ} → b ∷ x ≡ c ∷ y → b ≡ c
first_of e = cc

rest_of : {b c : ℕ} {x y : List ℕ} → b ∷ x ≡ c ∷ y → x ≡ y
rest_of e = cc

-- no byte is `<` and a space
not_both : {A : Type 0} (n : ℕ) → 60 ≡ n → 32 ≡ n → A
not_both n e f = lie (ap (λ n. n == 60) (f ∙ sym e))

-- where an insertion that begins with a space leaves both ends as they were, both are
-- cut at one place
same-end : (a b c d x : List ℕ) → a ++ (60 ∷ c) ≡ b ++ (60 ∷ d) →
    a ++ (32 ∷ (x ++ (60 ∷ c))) ≡ b ++ (32 ∷ (x ++ (60 ∷ d))) → c ≡ d
same-end [] [] c d x e f = rest_of e
same-end [] (n ∷ b) c d x e f = not_both n (first_of e) (first_of f)
same-end (m ∷ a) [] c d x e f = not_both m (sym (first_of e)) (sym (first_of f))
same-end (m ∷ a) (n ∷ b) c d x e f = same-end a b c d x (rest_of e) (rest_of f)

pub paragraph-takes : (nested : Bool) (before endings x : List ℕ) → is_line_ends endings ≡ true →
    Stands nested Flow (before ++ codes "</p>" ++ endings) → Stands nested Phrasing (32 ∷ x) →
    Stands nested Flow (before ++ (32 ∷ x) ++ codes "</p>" ++ endings)
paragraph-takes nested before endings x h s r =
    let cut = made-before (λ f y. is_contained nested Flow f ≡ true → Cut nested (32 ∷ x) f y)
    before endings (32 ∷ x) h (cuts nested (32 ∷ x)) s.forest s.reading s.contained in
    let open_tag : List ℕ = opening_tag cut.name cut.attributes in
    let close : List ℕ = 47 ∷ (cut.name ++ (62 ∷ [])) in
    let front : List ℕ = cut.front ++ (open_tag ++ written cut.children) in
    let whole = sym s.reading.written_so ∙ cut.whole in
    let left : before ++ (codes "</p>" ++ endings) ≡ front ++ (60 ∷ (close ++ written cut.rest)) =
    simp append_assoc (simp append_assoc at whole) in
    let right : before ++ (32 ∷ (x ++ (codes "</p>" ++ endings)))
    ≡ front ++ (32 ∷ (x ++ (60 ∷ (close ++ written cut.rest)))) =
    simp append_assoc (simp append_assoc at cut.made) in
    let ends : 47 ∷ 112 ∷ 62 ∷ endings ≡ close ++ written cut.rest = grind (arith, same-end) in
    let later : 112 ∷ 62 ∷ endings ≡ (cut.name ++ (62 ∷ [])) ++ written cut.rest = rest_of ends in
    let is : cut.name ≡ codes "p" = grind arith in
    let inside : Stands nested Phrasing (written cut.children) = grind (arith, stands-forest) in
    subst (Stands nested Flow) (sym cut.made) (stands-join cut.front _ cut.front_stands (stands-join
    (open_tag ++ (written cut.children ++ (32 ∷ x)) ++ closing_tag cut.name) (written cut.rest)
    (subst (Stands nested Flow) (sym (append_assoc open_tag (written cut.children ++ (32 ∷ x))
    (closing_tag cut.name))) (stands-enclosed cut.name cut.attributes
    (written cut.children ++ (32 ∷ x)) cut.tag (ap (λ name. held_in nested Flow name) is)
    (stands-join (written cut.children) (32 ∷ x) inside r)))
    (stands-forest nested Flow cut.rest cut.rest_forest cut.rest_contained)))

pub backreferences-stand : (nested : Bool) (d : Document) (identifier : List ℕ) (number count : ℕ) →
    Stands nested Phrasing (backreferences d.context.options identifier number count)
backreferences-stand nested d identifier number count = backreferences-read (read_in d).test
    (grind (arith, stands-text, stands-join)) (grind (arith, stands-text, stands-join)) (stands-tag
    (in_link nested) refl) (stands-tag (in_link nested) (grind arith)) identifier number count

-- a footnote's text
body-prints : (nested : Bool) (d : Document) → IsWhite d.context.ending → (x back : List ℕ) →
    Stands nested Flow x → Stands nested Phrasing back → Prints nested d Flow (body x back)
body-prints nested d w x back r rb = adds-body (Stands nested Flow) (Stands nested Phrasing)
    (λ before endings back h q rb. paragraph-takes nested before endings back h q
    (stands-join (32 ∷ []) back (stands-text refl refl) rb)) x back r rb (lays-both (adds-text r)
    (lays-both (lays-white refl (adds-needed white_beside w)) (adds-text (stands-wider back rb))))

item-prints : (nested : Bool) (d : Document) → IsWhite d.context.ending →
    (footnotes : List Footnote) → AreFlow nested footnotes → (identifier : List ℕ) →
    Prints nested d Items (item d.context footnotes identifier)
item-prints nested d w footnotes h identifier =
    let number : ℕ = place_among (distinct d.context.calls) identifier in
    adds-item white_beside (takes-white refl) (takes-white refl) d.context w footnotes identifier
    (item-turns (turns-tag Flow refl) (note_id d.context identifier) refl (id-escaped
    d.context.options (codes "fn-") identifier number refl))
    (grind (arith, body-prints, texts-among, stands-nothing, backreferences-stand))

-- the section's tag and its heading
heading-turns : (nested : Bool) (label : List ℕ) → Escaped label → Turns (Stands nested Flow)
    (Stands nested Flow) (heading_text (codes "h2") (codes "class=\"sr-only\"")
    label) (codes "</section>")
heading-turns nested label h =
    let heading : List ℕ = codes "<h2 id=\"footnote-label\" class=\"sr-only\">"
    ++ (label ++ codes "</h2>") in
    turn-after heading ((turns-tag Flow {name = codes "section"} refl).tag (attribute
    (codes "data-footnotes") [] ∷ attribute (codes "class") (codes "footnotes") ∷ []) refl refl)
    (λ x r. stands-join heading x ((stands-tag Phrasing {name = codes "h2"} refl).tag (attribute
    (codes "id") (codes "footnote-label") ∷ attribute (codes "class") (codes "sr-only") ∷ []) label
    refl refl (stands-text h refl)) r)

pub section-prints : (nested : Bool) (d : Document) → IsWhite d.context.ending →
    d.context.options.gfm_footnote_label_tag_name ≡ None →
    d.context.options.gfm_footnote_label_attributes ≡ None → (footnotes : List Footnote) →
    AreFlow nested footnotes → Prints nested d Flow (section d.context footnotes)
section-prints nested d w no_tag no_attributes footnotes h = adds-section white_beside (takes-white
    refl) (takes-white refl) (takes-white refl) d.context w ((turns-tag Items {name = codes "ol"}
    refl).tag [] refl refl) (heading-turns nested (heading_label_of d.context.options)
    (label-escaped d.context.options)) no_tag no_attributes stands-nothing footnotes
    (grind (arith, adds-all, stands-nothing, stands-join, item-prints))
