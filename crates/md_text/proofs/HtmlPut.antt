-- A paragraph takes an insertion before its end: so the ways back stand in a
-- footnote's last paragraph.
use Rattle.md_base.specs.Identifier.{is_nonempty}
use Rattle.std.proofs.Common.{arith, ◌≡◌, ◌⊎◌, ℕ, Bool, true, not, ◌&&◌, List, [], ◌∷◌, ◌++◌, refl}
use Rattle.std.proofs.Common.{sym, ◌∙◌, subst, inl, inr, append-nil, append_assoc, codes}
use Rattle.std.specs.List.{list_all}
use Rattle.std.proofs.lemmas.Bool.{and_parts}
use Rattle.md_text.specs.References.{is_escaped}
use Rattle.md_text.specs.Laws.{is_line_ends}
use Rattle.md_text.specs.Html.{Attribute, Forest, Empty, Text, Void, Element, is_forest, is_tag}
use Rattle.md_text.specs.Html.{begins_with_text, elements, void_tags, written, written_attributes}
use Rattle.md_text.specs.Html.{opening_tag, closing_tag, IsReading, HasReadingWith, all_attributes}
use Rattle.md_text.specs.Html.{is_printed, printed_elements, printed_void_tags}
use Rattle.md_text.proofs.HtmlNames.{is_name, no_angle, element-tidy, void-tidy, escaped-angle}
use Rattle.md_text.proofs.HtmlSplit.{name-not}
use Rattle.md_text.proofs.HtmlJoin.{text, void, enclosed, join, opening-before}
use Rattle.md_text.proofs.HtmlAngles.{first_angle, no_angle_inside, tag-angle}

-- `</p>`, and what follows it
abbrev end_before : List ℕ → List ℕ
end_before after = 60 ∷ 47 ∷ 112 ∷ 62 ∷ after

-- where one cut of a text is, seen from the cut before a paragraph's end
abbrev Meets : List ℕ → List ℕ → List ℕ → List ℕ → Type 0
Meets x y b after = ((m : List ℕ) × (b ≡ x ++ m) × (y ≡ m ++ end_before after))
    ⊎ ((m : List ℕ) × (x ≡ b ++ (60 ∷ m)) × (47 ∷ 112 ∷ 62 ∷ after ≡ m ++ y))

meet : (x y b after : List ℕ) → x ++ y ≡ b ++ end_before after → Meets x y b after
meet [] y b after e = inl (b, refl, e)
meet (c ∷ x) y [] after e =
    let first : c ≡ 60 = cc in
    let later : 47 ∷ 112 ∷ 62 ∷ after ≡ x ++ y = cc in
    inr (x, rw first refl, later)
meet (c ∷ x) y (d ∷ b) after e =
    let first : c ≡ d = cc in
    let later : x ++ y ≡ b ++ end_before after = cc in
    elim (meet x y b after later) [
      | inl r ↦ inl (r.0, rw (first, r.1) refl, r.2)
      | inr r ↦ inr (r.0, rw (first, r.1) refl, r.2)
    ]

-- the end doesn't begin inside a tag
not_in_tag : (name tail before after y m : List ℕ) → is_name name ≡ true →
    list_all no_angle (name ++ tail) ≡ true
    → 60 ∷ (name ++ tail) ≡ before ++ (60 ∷ m) → 47 ∷ 112 ∷ 62 ∷ after ≡ m ++ y → ⊥
not_in_tag name tail before after y m h angles cut z =
    grind (arith, first_angle, name-not, append_assoc)

-- an element and what follows it
element-before : (name : List ℕ) (attributes : List Attribute) (children rest : Forest)
    → written (Element name attributes children rest) ≡ opening_tag name attributes
    ++ (written children ++ (closing_tag name ++ written rest))
element-before name attributes children rest = grind (arith, append_assoc, opening-before)

-- a void tag and what follows it
void-before : (name : List ℕ) (attributes : List Attribute) (rest : Forest) →
    written (Void name attributes rest) ≡ written (Void name attributes Empty) ++ written rest
void-before name attributes rest = grind (arith, append_assoc)

-- pieces that are grouped otherwise
past_close-regrouped : (a b c d e : List ℕ) →
    (a ++ b ++ c) ++ (d ++ e) ≡ (a ++ (b ++ (c ++ d))) ++ e
past_close-regrouped a b c d e = simp append_assoc

at_close-regrouped : (a b c d e : List ℕ) →
    (a ++ (b ++ c) ++ d) ++ e ≡ (a ++ b) ++ (c ++ (d ++ e))
at_close-regrouped a b c d e = simp append_assoc

nil_not : (before : List ℕ) (m : List ℕ) → [] ≡ before ++ (60 ∷ m) → ⊥
nil_not [] m e = cc
nil_not (b ∷ before) m e = cc

-- a forest with a text inserted after the children of one of its elements
pub record IsMade (x : List ℕ) (made : Forest → List ℕ → Type 0) : Type 0 where
  pub texts : (bytes : List ℕ) (rest : Forest) (y : List ℕ) →
      is_escaped bytes ≡ true → made rest y →
      made (Text bytes rest) (bytes ++ y)
  pub voids : (name : List ℕ) (attributes : List Attribute) (rest : Forest) (y : List ℕ) →
      is_tag void_tags name attributes ≡ true → made rest y
      → made (Void name attributes rest) (written (Void name attributes Empty) ++ y)
  pub rests : (name : List ℕ) (attributes : List Attribute) (children rest : Forest) (y : List ℕ) →
      is_tag elements name attributes ≡ true → is_forest children ≡ true → made rest y
      → made (Element name attributes children rest)
      ((opening_tag name attributes ++ written children ++ closing_tag name) ++ y)
  pub insides : (name : List ℕ) (attributes : List Attribute) (children rest : Forest) →
      is_tag elements name attributes ≡ true → is_forest children ≡ true → is_forest rest ≡ true
      → made (Element name attributes children rest)
      ((opening_tag name attributes ++ (written children ++ x) ++ closing_tag name) ++ written rest)

pub put : (x : List ℕ) (made : Forest → List ℕ → Type 0) → IsMade x made →
    (f : Forest) (before after : List ℕ) →
    is_forest f ≡ true → list_all no_angle after ≡ true
    → written f ≡ before ++ end_before after → made f (before ++ (x ++ end_before after))
put x made is Empty before after hf angles e = absurd (nil_not before (47 ∷ 112 ∷ 62 ∷ after) e)
put x made is (Text bytes rest) before after hf angles e =
    let a = and_parts (is_nonempty bytes && is_escaped bytes && not (begins_with_text rest))
    (is_forest rest) hf in
    let escaped = (and_parts (is_nonempty bytes) (is_escaped bytes)
    (and_parts (is_nonempty bytes && is_escaped bytes) (not (begins_with_text rest)) a.0).0).1 in
    elim (meet bytes (written rest) before after e) [
      | inl on ↦ rw (on.1, append_assoc) (is.texts bytes rest (on.0 ++ (x ++ end_before after))
          escaped (put x made is rest on.0 after a.1 angles on.2))
      | inr in_text ↦ absurd (no_angle_inside before in_text.0
          (rw in_text.1 at (escaped-angle bytes escaped)))
    ]
put x made is (Void name attributes rest) before after hf angles e =
    let a = and_parts (is_tag void_tags name attributes) (is_forest rest) hf in
    let tidy = void-tidy name attributes a.0 in
    elim (meet (written (Void name attributes Empty)) (written rest) before after
    (sym (void-before name attributes rest) ∙ e)) [
      | inl on ↦ rw on.1 (simp append_assoc (simp append_assoc at (is.voids name attributes rest
          (on.0 ++ (x ++ end_before after)) a.0 (put x made is rest on.0 after a.1 angles on.2))))
      | inr in_tag ↦ absurd (not_in_tag name (written_attributes attributes
          ++ (32 ∷ 47 ∷ 62 ∷ [])) before after (written rest) in_tag.0 tidy.0
          (tag-angle name attributes (32 ∷ 47 ∷ 62 ∷ []) tidy refl) in_tag.1 in_tag.2)
    ]
put x made is (Element name attributes children rest) before after hf angles e =
    let a = and_parts (is_tag elements name attributes && is_forest children) (is_forest rest) hf in
    let b = and_parts (is_tag elements name attributes) (is_forest children) a.0 in
    let tidy = element-tidy name attributes b.0 in
    let close_tag = closing_tag name in
    elim (meet (opening_tag name attributes) (written children ++ (close_tag ++ written rest))
    before after (sym (element-before name attributes children rest) ∙ e)) [
      | inr in_tag ↦ absurd (not_in_tag name (written_attributes attributes
          ++ (62 ∷ [])) before after (written children ++ (close_tag ++ written rest)) in_tag.0
          tidy.0 (tag-angle name attributes (62 ∷ []) tidy refl) in_tag.1 in_tag.2)
      | inl past_open ↦
          elim (meet (written children) (close_tag ++ written rest) past_open.0 after past_open.2) [
            | inr in_children ↦
                absurd (no_angle_inside in_children.0 (47 ∷ (name ++ (62 ∷ [])) ++ written rest)
                (subst (λ t. list_all no_angle t ≡ true) in_children.2 angles))
            | inl past_children ↦
                elim (meet close_tag (written rest) past_children.0 after past_children.2) [
                  | inl past_close ↦ rw (past_open.1, past_children.1, past_close.1)
                      (subst (made (Element name attributes children rest)) (past_close-regrouped
                      (opening_tag name attributes) (written children) close_tag past_close.0
                      (x ++ end_before after)) (is.rests name attributes children rest
                      (past_close.0 ++ (x ++ end_before after)) b.0 b.1
                      (put x made is rest past_close.0 after a.1 angles past_close.2)))
                  | inr at_close ↦
                      (let empty = first_angle (47 ∷ (name ++ (62 ∷ []))) past_children.0 at_close.0
                      (tag-angle name [] (62 ∷ []) (tidy.0, refl) refl) at_close.1 in
                      let ends : end_before after ≡ close_tag ++ written rest =
                      rw (past_children.2, empty) refl in
                      rw (past_open.1, past_children.1, empty, append-nil, ends)
                      (subst (made (Element name attributes children rest)) (at_close-regrouped
                      (opening_tag name attributes) (written children) x close_tag (written rest))
                      (is.insides name attributes children rest b.0 b.1 a.1)))
                ]
          ]
    ]

line_ends-angle : (endings : List ℕ) → is_line_ends endings ≡ true →
    list_all no_angle endings ≡ true
line_ends-angle [] h = refl
line_ends-angle (b ∷ endings) h = let later = line_ends-angle endings in grind (arith, later, h)

-- the result for a paragraph's text and line endings
pub made-before : (made : Forest → List ℕ → Type 0) (before endings inserted : List ℕ) →
    is_line_ends endings ≡ true →
    IsMade inserted made → (f : Forest) → IsReading (before ++ codes "</p>" ++ endings) f
    → made f (before ++ inserted ++ codes "</p>" ++ endings)
made-before made before endings inserted h is f reading =
    grind (arith, append_assoc, put, line_ends-angle)

-- readings in which each attribute passes a test
reading-made : (p : Attribute → Bool) (x : List ℕ) → HasReadingWith p x →
    IsMade x (λ f y. is_printed f ≡ true → all_attributes p f ≡ true → HasReadingWith p y)
reading-made p x hx = record {
  texts = λ bytes rest y escaped later printed passes.
      join p bytes y (text p bytes escaped) (later printed passes);
  voids = λ name attributes rest y tag later printed passes.
      (let parts = and_parts (list_all p attributes) (all_attributes p rest) passes in
      let of = and_parts (is_tag printed_void_tags name attributes) (is_printed rest) printed in
      join p (written (Void name attributes Empty)) y
      (void p name attributes of.0 parts.0) (later of.1 parts.1));
  rests = λ name attributes children rest y tag forest later printed passes.
      (let parts = and_parts (list_all p attributes && all_attributes p children)
      (all_attributes p rest) passes in
      let own = and_parts (list_all p attributes) (all_attributes p children) parts.0 in
      let of = printed_parts name attributes children rest printed in
      join p _ y (enclosed p name attributes (written children) of.0 own.0
      (as_written p children forest of.1 own.1)) (later of.2 parts.1));
  insides = λ name attributes children rest tag forest rests printed passes.
      (let parts = and_parts (list_all p attributes && all_attributes p children)
      (all_attributes p rest) passes in
      let own = and_parts (list_all p attributes) (all_attributes p children) parts.0 in
      let of = printed_parts name attributes children rest printed in
      join p _ (written rest) (enclosed p name attributes (written children ++ x) of.0 own.0
      (join p (written children) x (as_written p children forest of.1 own.1) hx))
      (as_written p rest rests of.2 parts.1));
}
  where
    as_written : (p : Attribute → Bool) (f : Forest) → is_forest f ≡ true →
        is_printed f ≡ true → all_attributes p f ≡ true →
        HasReadingWith p (written f)
    as_written p f h printed passes = record {
      forest = f;
      reading = record { in_grammar = h; written_so = refl };
      printed = printed;
      passes = passes;
    }

    printed_parts : (name : List ℕ) (attributes : List Attribute) (children rest : Forest) →
        is_printed (Element name attributes children rest) ≡ true →
        (is_tag printed_elements name attributes ≡ true) × (is_printed children ≡ true)
        × (is_printed rest ≡ true)
    printed_parts name attributes children rest h =
        let both = and_parts (is_tag printed_elements name attributes && is_printed children)
        (is_printed rest) h in
        let own = and_parts (is_tag printed_elements name attributes) (is_printed children)
        both.0 in
        (own.0, own.1, both.1)

pub paragraph_takes : (p : Attribute → Bool) (before endings inserted : List ℕ) →
    is_line_ends endings ≡ true →
    HasReadingWith p (before ++ codes "</p>" ++ endings) → HasReadingWith p inserted
    → HasReadingWith p (before ++ inserted ++ codes "</p>" ++ endings)
paragraph_takes p before endings inserted h hv hx =
    made-before (λ f y. is_printed f ≡ true → all_attributes p f ≡ true → HasReadingWith p y) before
    endings inserted h (reading-made p inserted hx) hv.forest hv.reading hv.printed hv.passes
