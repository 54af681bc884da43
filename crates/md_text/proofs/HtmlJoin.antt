-- Texts that have a reading: the empty text, a plain text, tags around a text that has a reading,
-- and two such texts joined. All printed text is built from these.
use Rattle.md_base.specs.Identifier.{is_nonempty}
use Rattle.std.specs.List.{list_all}
use Rattle.std.proofs.Common.{arith, ◌≡◌, ℕ, Bool, true, not, ◌&&◌, List, [], ◌∷◌, ◌++◌, refl}
use Rattle.std.proofs.Common.{append-nil, append_assoc}
use Rattle.std.proofs.lemmas.Bool.{and_parts, and_from}
use Rattle.md_text.specs.References.{is_escaped}
use Rattle.md_text.specs.Html.{Attribute, Forest, Empty, Text, Void, Element, is_forest, is_tag}
use Rattle.md_text.specs.Html.{begins_with_text, elements, void_tags, written, written_attributes}
use Rattle.md_text.specs.Html.{opening_tag, closing_tag, HasReadingWith, all_attributes}
use Rattle.md_text.specs.Html.{is_printed, printed_elements, printed_void_tags}
use Rattle.md_text.proofs.EscapedLemmas.{escaped-append}
use Rattle.md_text.proofs.HtmlNames.{printed-element, printed-void}

filled-append : (x y : List ℕ) → is_nonempty x ≡ true → is_nonempty (x ++ y) ≡ true
filled-append x y h = grind arith

-- a text before a forest, in one with a text that the forest begins with
abbrev pub text_before : List ℕ → Forest → Forest
text_before bytes Empty = Text bytes Empty
text_before bytes (Text more rest) = Text (bytes ++ more) rest
text_before bytes (Void name attributes rest) = Text bytes (Void name attributes rest)
text_before bytes (Element name attributes children rest) =
    Text bytes (Element name attributes children rest)

-- one forest after another
abbrev pub joined : Forest → Forest → Forest
joined Empty g = g
joined (Text bytes rest) g = text_before bytes (joined rest g)
joined (Void name attributes rest) g = Void name attributes (joined rest g)
joined (Element name attributes children rest) g = Element name attributes children (joined rest g)

written-text_before : (bytes : List ℕ) (g : Forest) →
    written (text_before bytes g) ≡ bytes ++ written g
written-text_before bytes g = grind (arith, append_assoc)

forest-text_before : (bytes : List ℕ) (g : Forest) → is_nonempty bytes ≡ true →
    is_escaped bytes ≡ true →
    is_forest g ≡ true → is_forest (text_before bytes g) ≡ true
forest-text_before bytes g f h hg =
    grind (arith, and_from, and_parts, filled-append, escaped-append)

all-text_before : (p : Attribute → Bool) (bytes : List ℕ) (g : Forest) → all_attributes p g ≡ true →
    all_attributes p (text_before bytes g) ≡ true
all-text_before p bytes g h = grind arith

printed-text_before : (bytes : List ℕ) (g : Forest) → is_printed g ≡ true →
    is_printed (text_before bytes g) ≡ true
printed-text_before bytes g h = grind arith

-- one forest after another is of tags that the compiler writes, if both are
pub printed-joined : (f g : Forest) → is_printed f ≡ true → is_printed g ≡ true →
    is_printed (joined f g) ≡ true
printed-joined Empty g hf hg = hg
printed-joined (Text bytes rest) g hf hg =
    printed-text_before bytes (joined rest g) (printed-joined rest g hf hg)
printed-joined (Void name attributes rest) g hf hg =
    let a = and_parts (is_tag printed_void_tags name attributes) (is_printed rest) hf in
    and_from _ _ a.0 (printed-joined rest g a.1 hg)
printed-joined (Element name attributes children rest) g hf hg =
    let a = and_parts (is_tag printed_elements name attributes && is_printed children)
    (is_printed rest) hf in
    and_from _ _ a.0 (printed-joined rest g a.1 hg)

-- ---- the closure facts

pub nothing : (p : Attribute → Bool) → HasReadingWith p []
nothing p = grind arith

pub text : (p : Attribute → Bool) (bytes : List ℕ) → is_escaped bytes ≡ true →
    HasReadingWith p bytes
text p [] h = nothing p
text p (b ∷ bytes) h = record {
  forest = Text (b ∷ bytes) Empty;
  reading = record { in_grammar = grind (arith, h); written_so = append-nil (b ∷ bytes) };
  printed = refl;
  passes = refl;
}

pub void : (p : Attribute → Bool) (name : List ℕ) (attributes : List Attribute) →
    is_tag printed_void_tags name attributes ≡ true → list_all p attributes ≡ true →
    HasReadingWith p (written (Void name attributes Empty))
void p name attributes h a = record {
  forest = Void name attributes Empty;
  reading = record {
    in_grammar = grind (arith, printed-void name attributes h);
    written_so = refl;
  };
  printed = grind (arith, h);
  passes = grind (arith, a);
}

pub element :
    (p : Attribute → Bool) (name : List ℕ) (attributes : List Attribute) (inside : List ℕ) →
    is_tag printed_elements name attributes ≡ true → list_all p attributes ≡ true
    → HasReadingWith p inside
    → HasReadingWith p (60 ∷ (name ++ (written_attributes attributes
    ++ (62 ∷ (inside ++ (60 ∷ 47 ∷ (name ++ (62 ∷ []))))))))
element p name attributes inside h a within = record {
  forest = Element name attributes within.forest Empty;
  reading = record {
    in_grammar =
        grind (arith, printed-element name attributes h, within.reading.in_grammar);
    written_so = rw within.reading.written_so refl;
  };
  printed = grind (arith, h, within.printed);
  passes = grind (arith, a, within.passes);
}

pub opening-before : (name : List ℕ) (attributes : List Attribute) (x : List ℕ) →
    opening_tag name attributes ++ x ≡ 60 ∷ (name ++ (written_attributes attributes ++ (62 ∷ x)))
opening-before name attributes x = grind (arith, append_assoc)

pub enclosed :
    (p : Attribute → Bool) (name : List ℕ) (attributes : List Attribute) (inside : List ℕ) →
    is_tag printed_elements name attributes ≡ true → list_all p attributes ≡ true
    → HasReadingWith p inside
    → HasReadingWith p (opening_tag name attributes ++ inside ++ closing_tag name)
enclosed p name attributes inside h a within = grind (arith, append_assoc, opening-before, element)

-- a forest before what has a reading
pub after_forest : (p : Attribute → Bool) (f g : Forest) → is_forest f ≡ true →
    all_attributes p f ≡ true →
    is_forest g ≡ true → all_attributes p g ≡ true
    → (is_forest (joined f g) ≡ true) × (written (joined f g) ≡ written f ++ written g)
    × (all_attributes p (joined f g) ≡ true)
after_forest p Empty g hf pf hg pg = (hg, refl, pg)
after_forest p (Text bytes rest) g hf pf hg pg =
    let a = and_parts (is_nonempty bytes && is_escaped bytes && not (begins_with_text rest))
    (is_forest rest) hf in
    let b = and_parts (is_nonempty bytes && is_escaped bytes) (not (begins_with_text rest)) a.0 in
    let c = and_parts (is_nonempty bytes) (is_escaped bytes) b.0 in
    let on = after_forest p rest g a.1 pf hg pg in (
      forest-text_before bytes (joined rest g) c.0 c.1 on.0,
      simp (written-text_before, on.1, append_assoc),
      all-text_before p bytes (joined rest g) on.2,
    )
after_forest p (Void name attributes rest) g hf pf hg pg =
    let a = and_parts (is_tag void_tags name attributes) (is_forest rest) hf in
    let b = and_parts (list_all p attributes) (all_attributes p rest) pf in
    let on = after_forest p rest g a.1 b.1 hg pg in
    (and_from _ _ a.0 on.0, simp (on.1, append_assoc), and_from _ _ b.0 on.2)
after_forest p (Element name attributes children rest) g hf pf hg pg =
    let a = and_parts (is_tag elements name attributes && is_forest children) (is_forest rest) hf in
    let b =
    and_parts (list_all p attributes && all_attributes p children) (all_attributes p rest) pf in
    let on = after_forest p rest g a.1 b.1 hg pg in
    (and_from _ _ a.0 on.0, simp (on.1, append_assoc), and_from _ _ b.0 on.2)

pub join : (p : Attribute → Bool) (x y : List ℕ) → HasReadingWith p x → HasReadingWith p y →
    HasReadingWith p (x ++ y)
join p x y hx hy =
    let both = after_forest p hx.forest hy.forest hx.reading.in_grammar hx.passes
    hy.reading.in_grammar hy.passes in
    record {
      forest = joined hx.forest hy.forest;
      reading = record {
        in_grammar = both.0;
        written_so = rw (both.1, hx.reading.written_so, hy.reading.written_so) refl;
      };
      printed = printed-joined hx.forest hy.forest hx.printed hy.printed;
      passes = both.2;
    }
