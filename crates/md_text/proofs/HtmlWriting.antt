-- What is written, with what follows it: one list to compare, in place of a text and a rest.
use Rattle.std.proofs.Common.{arith, ◌≡◌, ℕ, List, [], ◌∷◌, ◌++◌, refl, append_assoc}
use Rattle.md_text.specs.Html.{Attribute, Forest, Empty, Text, Void, Element, written}
use Rattle.md_text.specs.Html.{written_attributes}

-- attributes, and what follows them
abbrev pub attributes_before : List Attribute → List ℕ → List ℕ
attributes_before [] r = r
attributes_before (a ∷ rest) r =
    32 ∷ (a.name ++ (61 ∷ 34 ∷ (a.value ++ (34 ∷ attributes_before rest r))))

-- a forest, and what follows it
abbrev pub forest_before : Forest → List ℕ → List ℕ
forest_before Empty r = r
forest_before (Text bytes rest) r = bytes ++ forest_before rest r
forest_before (Void name attributes rest) r = 60 ∷ (name
    ++ attributes_before attributes (32 ∷ 47 ∷ 62 ∷ forest_before rest r))
forest_before (Element name attributes children rest) r =
    60 ∷ (name ++ attributes_before attributes (62 ∷ forest_before children (60 ∷ 47
    ∷ (name ++ (62 ∷ forest_before rest r)))))

pub written_attributes-before : (attributes : List Attribute) (r : List ℕ) →
    written_attributes attributes ++ r ≡ attributes_before attributes r
written_attributes-before [] r = refl
written_attributes-before (a ∷ rest) r = simp (append_assoc, written_attributes-before rest r)

pub written-before : (f : Forest) (r : List ℕ) → written f ++ r ≡ forest_before f r
written-before Empty r = refl
written-before (Text bytes rest) r = rw (append_assoc, written-before rest r) refl
written-before (Void name attributes rest) r =
    let later = written-before rest r in
    grind (arith, append_assoc, written_attributes-before, later)
written-before (Element name attributes children rest) r =
    let inside = written-before children in
    let later = written-before rest r in
    grind (arith, append_assoc, written_attributes-before, inside, later)
