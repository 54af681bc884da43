-- What the reader of HTML guesses is a reading where it is a forest and is written as the text. The
-- cases of texts with a reading, and of those without one, compute by it.
use Rattle.std.specs.Str.{bytes_eq}
use Rattle.md_base.proofs.Lies.{lie}
use Rattle.md_base.specs.Identifier.{is_nonempty}
use Rattle.std.proofs.Common.{◌≡◌, ℕ, ◌+◌, ◌≤◌, ◌==◌, Bool, true, false, ◌&&◌, List, [], ◌∷◌}
use Rattle.std.proofs.Common.{◌++◌, drop, length, refl, sym, ap, ◌∙◌, inl, inr, append-nil}
use Rattle.std.proofs.Common.{zero, suc, arith, ne_eqb, length-append}
use Rattle.std.specs.List.{list_all}
use Rattle.std.proofs.lemmas.Bool.{and_parts, and_from}
use Rattle.std.specs.Cmp.Lexicographic.{bytes_decides}
use Rattle.md_text.specs.Html.{Attribute, Forest, Empty, Text, Void, Element, is_forest, written}
use Rattle.md_text.specs.Html.{IsReading, HasReading, HasReadingWith, all_attributes, is_printed}
use Rattle.md_text.proofs.HtmlNames.{is_name, is_name_byte, no_angle, are_tidy}
use Rattle.md_text.proofs.HtmlSplit.{EndsAttributes}
use Rattle.md_text.proofs.HtmlWriting.{attributes_before, forest_before, written-before}
use Rattle.md_text.proofs.HtmlReading.{IsEnd, text_parts, element_parts, void_parts, after_text}
use Rattle.md_text.proofs.HtmlReading.{attributes_stop}
use Rattle.md_text.proofs.HtmlReader.{Left, with_left, read_run, past_name, past_space, read_run-at}
use Rattle.md_text.proofs.HtmlReader.{read_attributes, past_tag_name, past_angle, past_text}
use Rattle.md_text.proofs.HtmlReader.{at_node, past_attributes, read_forest}

-- ---- the reader finds what is written
pub passes_not : (t : ℕ → Bool) (b n : ℕ) → t n ≡ false → t b ≡ true → (b == n) ≡ false
passes_not t b n no_n yes_b = ne_eqb b n (λ e. lie (sym no_n ∙ ap t (sym e) ∙ yes_b))

past_space-name : (go : List ℕ → Left (List Attribute)) (name tail : List ℕ) → is_name name ≡ true →
    past_space go (name ++ tail) ≡ past_name go (read_run is_name_byte (name ++ tail))
past_space-name go name tail h = grind arith

name_bytes : (name : List ℕ) → is_name name ≡ true → list_all is_name_byte name ≡ true
name_bytes name h = (and_parts (is_nonempty name) (list_all is_name_byte name) h).1

read_attributes-at : (n : ℕ) (x : List Attribute) (r : List ℕ) → are_tidy x ≡ true →
    EndsAttributes r → length x ≤ n →
    read_attributes n (attributes_before x r) ≡ with_left x r
read_attributes-at zero [] r h ends l = refl
read_attributes-at zero (a ∷ x) r h ends l = absurd (omega arith)
read_attributes-at (suc n) [] r h ends l = grind (arith, ends)
read_attributes-at (suc n) (a ∷ x) r h ends l =
    let later = read_attributes-at n x r in
    grind (arith, past_space-name, read_run-at, name_bytes, later, h, ends, l)

length-attributes : (x : List Attribute) (r : List ℕ) → length x ≤ length (attributes_before x r)
length-attributes [] r = grind (arith, length-append)
length-attributes (a ∷ x) r = grind (arith, length-append, length-attributes x r)

-- how deep and long a forest is
abbrev size : Forest → ℕ
size Empty = 1
size (Text bytes rest) = suc (size rest)
size (Void name attributes rest) = suc (size rest)
size (Element name attributes children rest) = suc (size children + size rest)

past_angle-name : (go : List ℕ → Left Forest) (name tail : List ℕ) → is_name name ≡ true →
    past_angle go (name ++ tail) ≡ past_tag_name go (read_run is_name_byte (name ++ tail))
past_angle-name go name tail h = grind arith

at_node-text : (go : List ℕ → Left Forest) (bytes tail : List ℕ) → is_nonempty bytes ≡ true →
    list_all no_angle bytes ≡ true →
    at_node go (bytes ++ tail) ≡ past_text go (read_run no_angle (bytes ++ tail))
at_node-text go bytes tail f h = grind arith

past_name_bytes : (name tail : List ℕ) → drop (length name) (name ++ tail) ≡ tail
past_name_bytes [] tail = refl
past_name_bytes (b ∷ name) tail = past_name_bytes name tail

-- a tag up to the end of its attributes
tag-at : (go : List ℕ → Left Forest) (name : List ℕ) (attributes : List Attribute) (r : List ℕ) →
    (is_name name ≡ true) × (are_tidy attributes ≡ true) → EndsAttributes r
    → past_angle go (name ++ attributes_before attributes r) ≡ past_attributes go name attributes r
tag-at go name attributes r tidy ends =
    grind (
      arith,
      past_angle-name,
      read_run-at,
      name_bytes,
      attributes_stop,
      read_attributes-at,
      length-attributes,
    )

read_forest-at : (n : ℕ) (f : Forest) (r : List ℕ) → is_forest f ≡ true → IsEnd r → size f ≤ n →
    read_forest n (forest_before f r) ≡ with_left f r
read_forest-at zero Empty r h ends l = absurd (omega arith)
read_forest-at zero _ r h ends l = absurd (omega arith)
read_forest-at (suc n) Empty r h ends l = elim ends [
  | inl empty ↦ rw empty refl
  | inr slash ↦ rw slash.1 refl
]
read_forest-at (suc n) (Text bytes rest) r h ends l =
    let p = text_parts bytes rest h in
    rw (
      at_node-text (read_forest n) bytes (forest_before rest r) p.filled p.angles,
      read_run-at no_angle bytes (forest_before rest r) p.angles (after_text rest r p.alone ends),
      read_forest-at n rest r p.later ends (omega arith),
    ) refl
read_forest-at (suc n) (Void name attributes rest) r h ends l =
    let p = void_parts name attributes rest h in
    let later = forest_before rest r in
    rw (
      tag-at (read_forest n) name attributes (32 ∷ 47 ∷ 62 ∷ later) p.tidy
          (inr (62 ∷ later, refl)),
      read_forest-at n rest r p.later ends (omega arith),
    ) refl
read_forest-at (suc n) (Element name attributes children rest) r h ends l =
    let p = element_parts name attributes children rest h in
    let later = forest_before rest r in
    let close = 60 ∷ 47 ∷ (name ++ (62 ∷ later)) in
    rw (
      tag-at (read_forest n) name attributes (62 ∷ forest_before children close) p.tidy
          (inl (forest_before children close, refl)),
      read_forest-at n children close p.inside (inr (name ++ (62 ∷ later), refl)) (omega arith),
      past_name_bytes name (62 ∷ later),
      read_forest-at n rest r p.later ends (omega arith),
    ) refl

size-written : (f : Forest) → is_forest f ≡ true → size f ≤ suc (length (written f))
size-written Empty h = omega arith
size-written (Text bytes rest) h =
    let p = text_parts bytes rest h in
    let filled : 1 ≤ length bytes = grind (arith, p.filled) in
    omega (arith, size-written rest p.later, filled, length-append {A = ℕ})
size-written (Void name attributes rest) h =
    let p = void_parts name attributes rest h in
    omega (arith, size-written rest p.later, length-append {A = ℕ})
size-written (Element name attributes children rest) h =
    let p = element_parts name attributes children rest h in
    omega (arith, size-written children p.inside, size-written rest p.later, length-append {A = ℕ})

-- ---- which texts have a reading
abbrev pub guessed : List ℕ → Forest
guessed text = (read_forest (suc (length text)) text).found

abbrev pub is_readable : List ℕ → Bool
is_readable text = is_forest (guessed text) && bytes_eq (written (guessed text)) text

guessed_reading : (text : List ℕ) → is_readable text ≡ true → IsReading text (guessed text)
guessed_reading text h =
    let p = and_parts (is_forest (guessed text)) (bytes_eq (written (guessed text)) text) h in
    record { in_grammar = p.0; written_so = (bytes_decides (written (guessed text)) text).0 p.1 }

pub readable : (text : List ℕ) → is_readable text ≡ true → HasReading text
readable text h = record { forest = guessed text; reading = guessed_reading text h }

guessed-is : (text : List ℕ) (f : Forest) → IsReading text f → guessed text ≡ f
guessed-is text f reading =
    let whole = written-before f [] in
    let enough : size f ≤ suc (length text) =
    omega (arith, size-written f reading.in_grammar, ap length reading.written_so) in
    let read = read_forest-at (suc (length text)) f [] reading.in_grammar (inl refl) enough in
    grind (arith, whole, append-nil, read, reading)

pub reads : (text : List ℕ) → HasReading text → is_readable text ≡ true
reads text h =
    let is = guessed-is text h.forest h.reading in
    and_from (is_forest (guessed text)) (bytes_eq (written (guessed text)) text)
    (ap is_forest is ∙ h.reading.in_grammar)
    ((bytes_decides (written (guessed text)) text).1 (ap written is ∙ h.reading.written_so))

pub unreadable : (text : List ℕ) → is_readable text ≡ false → HasReading text → ⊥
unreadable text e h = lie (sym e ∙ reads text h)

-- a text with a reading whose attributes pass, and one with a reading in which an attribute fails
pub readable_with : (p : Attribute → Bool) (text : List ℕ) → is_readable text ≡ true →
    is_printed (guessed text) ≡ true → all_attributes p (guessed text) ≡ true
    → HasReadingWith p text
readable_with p text h printed passes = grind (arith, guessed_reading)

pub fails_with : (p : Attribute → Bool) (text : List ℕ) → all_attributes p (guessed text) ≡ false →
    HasReadingWith p text → ⊥
fails_with p text e h = grind (arith, guessed-is)
