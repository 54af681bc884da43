-- Texts that a content allows: the empty text, a plain text, tags around their content, and two
-- such texts joined. What stands among spans stands among blocks.
use Rattle.std.specs.List.{list_all}
use Rattle.std.specs.Option.{option_map_or}
use Rattle.std.proofs.Common.{◌≡◌, ℕ, Bool, true, false, List, [], ◌∷◌, ◌++◌, refl, ap, ◌∙◌}
use Rattle.std.proofs.Common.{append-nil, arith}
use Rattle.std.specs.Prelude.{Some, Option, None, find, option_map}
use Rattle.std.proofs.lemmas.Bool.{and_parts, and_from, or_right}
use Rattle.std.proofs.lemmas.List.Folds.{list_all-append}
use Rattle.md_base.proofs.Lies.{lie}
use Rattle.md_text.specs.Laws.{is_line_ends}
use Rattle.md_text.specs.Bytes.{is_one_of}
use Rattle.md_text.specs.Html.{Attribute, Forest, Empty, Text, Void, Element, is_tag, elements}
use Rattle.md_text.specs.Html.{written_attributes, IsReading, any_attribute, opening_tag}
use Rattle.md_text.specs.Html.{closing_tag}
use Rattle.md_text.proofs.HtmlJoin.{joined, after_forest, opening-before}
use Rattle.md_text.proofs.HtmlNames.{printed-element, printed-void}
use Rattle.md_text.proofs.HtmlReading.{one_reading, all-any}
use Rattle.md_text.proofs.HtmlWriting.{written_attributes-before}
use Rattle.md_text.proofs.EscapedLemmas.{escaped-append}
use Rattle.md_safe.proofs.Texts.{Escaped, line_ends-escaped}
use Rattle.md_safe.proofs.Laid.{IsBeside}
use Rattle.md_safe.proofs.Tags.{TurnsTag, Tagged, Single, Takes}
use Rattle.md_safe.specs.Contents.{Content, Flow, Phrasing, Preformatted, held_in, voids_in}
use Rattle.md_safe.specs.Contents.{is_space, may_say, is_contained, IsContainedAs, span_elements}
use Rattle.md_safe.specs.Contents.{block_elements}
use Rattle.md_safe.proofs.Cases.{all-weaker}
use Rattle.std.specs.Str.{bytes_eq}

-- a text has a reading in which everything stands where it may
pub record Stands (nested : Bool) (content : Content) (x : List ℕ) : Type 0 where
  pub forest : Forest
  pub reading : IsReading x forest
  pub contained : is_contained nested content forest ≡ true

-- it has no other reading
pub contained-once : (nested : Bool) (x : List ℕ) → Stands nested Flow x → IsContainedAs nested x
contained-once nested x h = record {
  forest = h.forest;
  reading = h.reading;
  contained = h.contained;
  only = λ other also. one_reading x other h.forest also h.reading;
}

-- ---- texts in one

-- what an element holds stands where it may
abbrev pub is_held : (nested : Bool) → Content → List ℕ → Forest → Bool
is_held nested content name inner = option_map_or (λ held. is_contained nested held inner)
    (held_in nested content name) false

contained-joined : (nested : Bool) (content : Content) (f g : Forest) →
    is_contained nested content f ≡ true → is_contained nested content g ≡ true →
    is_contained nested content (joined f g) ≡ true
contained-joined nested content Empty g a b = b
contained-joined nested content (Text bytes rest) g a b =
    grind (arith, and_parts, and_from, list_all-append, contained-joined nested content rest g)
contained-joined nested content (Void name attributes rest) g a b =
    grind (arith, contained-joined nested content rest g)
contained-joined nested content (Element name attributes children rest) g a b =
    grind (arith, contained-joined nested content rest g)

pub stands-join : {nested : Bool} {content : Content} (x y : List ℕ) → Stands nested content x →
    Stands nested content y → Stands nested content (x ++ y)
stands-join {nested} {content} x y a b =
    let both = after_forest any_attribute a.forest b.forest a.reading.in_grammar (all-any a.forest)
    b.reading.in_grammar (all-any b.forest) in
    grind (arith, contained-joined)

pub stands-nothing : {nested : Bool} {content : Content} → Stands nested content []
stands-nothing = grind arith

pub stands-text : {nested : Bool} {content : Content} {x : List ℕ} → Escaped x →
    may_say content x ≡ true → Stands nested content x
stands-text {x = []} h s = stands-nothing
stands-text {content = content} {x = b ∷ bytes} h s = record {
  forest = Text (b ∷ bytes) Empty;
  reading = grind (arith, and_from, append-nil);
  contained = and_from (may_say content (b ∷ bytes)) true s refl;
}

pub stands-void : {nested : Bool} {content : Content} {name : List ℕ} →
    is_one_of (voids_in content) name ≡ true → Single any_attribute (Stands nested content) name
stands-void {nested} {content} {name} v = record {
  tag = λ attributes h a.
      let end = written_attributes-before attributes (32 ∷ 47 ∷ 62 ∷ []) in
      rw (← end) (record {
        forest = Void name attributes Empty;
        reading = grind (arith, and_from, printed-void name attributes h);
        contained = and_from (is_one_of (voids_in content) name) true v refl;
      });
}

-- an element may stand there and holds this
abbrev pub Opens : (nested : Bool) → Content → Content → List ℕ → Type 0
Opens nested content held name = held_in nested content name ≡ Some held

stands-element : {nested : Bool} {content held : Content} (name : List ℕ)
    (attributes : List Attribute) (inside : List ℕ) → is_tag elements name attributes ≡ true →
    Opens nested content held name → Stands nested held inside → Stands nested content (60 ∷ (name
    ++ (written_attributes attributes ++ (62 ∷ (inside ++ (60 ∷ 47 ∷ (name ++ (62 ∷ []))))))))
stands-element {nested} {content} name attributes inside h opens within = record {
  forest = Element name attributes within.forest Empty;
  reading = grind (arith, and_from);
  contained = grind (arith, and_from);
}

-- attribute by attribute
pub stands-tag : {nested : Bool} {content : Content} (held : Content) {name : List ℕ} →
    Opens nested content held name → Tagged any_attribute (Stands nested held)
    (Stands nested content) name
stands-tag held {name} opens = record {
  tag = λ attributes inside h a within. rw (← (written_attributes-before attributes _))
      (stands-element name attributes inside (printed-element name attributes h) opens within);
}

-- ---- white space

-- only white space, and escaped
abbrev pub IsWhite : List ℕ → Type 0
IsWhite x = Escaped x × (list_all is_space x ≡ true)

-- where white space may stand
abbrev pub is_spaced : Content → Bool
is_spaced Preformatted = false
is_spaced _ = true

pub stands-white : {nested : Bool} {content : Content} {x : List ℕ} → is_spaced content ≡ true →
    IsWhite x → Stands nested content x
stands-white {content = content} {x} is h = grind (arith, stands-text)

line_ends-space : (x : List ℕ) → is_line_ends x ≡ true → list_all is_space x ≡ true
line_ends-space = all-weaker _ is_space (λ b h. grind arith)

pub line_ends-white : (x : List ℕ) → is_line_ends x ≡ true → IsWhite x
line_ends-white x h = (line_ends-escaped x h, line_ends-space x h)

pub white_beside : IsBeside IsWhite
white_beside = grind (arith, escaped-append, list_all-append, and_from)

-- white space may be beside it
pub takes-white : {nested : Bool} {content : Content} → is_spaced content ≡ true →
    Takes IsWhite (Stands nested content)
takes-white is = grind (arith, stands-join, stands-white)

-- ---- the tag of an element, which changes the content to another

-- the same with the tags as they are named elsewhere
pub stands-enclosed : {nested : Bool} {content held : Content} (name : List ℕ)
    (attributes : List Attribute) (inside : List ℕ) → is_tag elements name attributes ≡ true →
    Opens nested content held name → Stands nested held inside →
    Stands nested content (opening_tag name attributes ++ (inside ++ closing_tag name))
stands-enclosed name attributes inside h opens within =
    grind (arith, opening-before, stands-element)

pub turns-tag : {nested : Bool} (held : Content) {content : Content} {name : List ℕ} →
    Opens nested content held name → TurnsTag any_attribute (Stands nested held)
    (Stands nested content) name
turns-tag held {name = name} opens = record {
  tag = λ attributes h a. record {
    turn = λ x within.
        stands-enclosed name attributes x (printed-element name attributes h) opens within;
  };
}

find-first : {A : Type 0} (test : A → Bool) (xs ys : List A) (x : A) → find test xs ≡ Some x →
    find test (xs ++ ys) ≡ Some x
find-first test [] ys x e = cc
find-first test (first ∷ xs) ys x e = grind (arith, find-first test xs ys x)

held-wider : (nested : Bool) (name : List ℕ) (inner : Forest) →
    is_held nested Phrasing name inner ≡ true →
    is_held nested Flow name inner ≡ true
held-wider nested name inner h =
    by (find test (span_elements nested)) (find-first test (span_elements nested) block_elements) h
  where
    test : List ℕ × Content → Bool
    test element = bytes_eq element.0 name

    by : (found : Option (List ℕ × Content)) → ((element : List ℕ × Content) → found ≡ Some element
        → find test (span_elements nested ++ block_elements) ≡ Some element) →
        option_map_or (λ held. is_contained nested held inner)
        (option_map (λ element. element.1) found) false ≡ true →
        is_held nested Flow name inner ≡ true
    by None e h = lie h
    by (Some element) e h = ap (λ found. option_map_or (λ held. is_contained nested held inner)
        (option_map (λ element. element.1) found) false) (e element refl) ∙ h

contained-wider : (nested : Bool) (f : Forest) → is_contained nested Phrasing f ≡ true →
    is_contained nested Flow f ≡ true
contained-wider nested Empty h = refl
contained-wider nested (Text bytes rest) h = contained-wider nested rest h
contained-wider nested (Void name attributes rest) h =
    let parts = and_parts _ _ h in
    and_from _ _ (or_right _ _ parts.0) (contained-wider nested rest parts.1)
contained-wider nested (Element name attributes inner rest) h =
    let parts = and_parts _ _ h in
    and_from _ _ (held-wider nested name inner parts.0) (contained-wider nested rest parts.1)

pub stands-wider : {nested : Bool} (x : List ℕ) → Stands nested Phrasing x → Stands nested Flow x
stands-wider x h = grind (arith, contained-wider)
