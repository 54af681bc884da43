-- Where `<` stands in what is written: not in a text, and in a tag only at its first byte.
use Rattle.md_base.proofs.Lies.{lie}
use Rattle.std.proofs.Common.{arith, ◌≡◌, ℕ, true, List, [], ◌∷◌, ◌++◌, refl}
use Rattle.std.specs.List.{list_all}
use Rattle.std.proofs.lemmas.Bool.{and_parts, and_from}
use Rattle.std.proofs.lemmas.List.Folds.{list_all-append}
use Rattle.md_text.specs.Html.{Attribute, written_attributes}
use Rattle.md_text.proofs.HtmlNames.{is_name, is_name_byte, no_angle, are_tidy}

-- a text has no `<` if each of its bytes isn't one
pub no_angle_inside : (b m : List ℕ) → list_all no_angle (b ++ (60 ∷ m)) ≡ true → ⊥
no_angle_inside [] m h = lie h
no_angle_inside (c ∷ b) m h = no_angle_inside b m (grind (arith, h))

pub name-angle : (name : List ℕ) → list_all is_name_byte name ≡ true → list_all no_angle name ≡ true
name-angle [] h = refl
name-angle (b ∷ name) h = let later = name-angle name in grind (arith, later, h)

pub all-append : (x y : List ℕ) → list_all no_angle x ≡ true → list_all no_angle y ≡ true →
    list_all no_angle (x ++ y) ≡ true
all-append x y hx hy = grind (arith, list_all-append, and_from)

attributes-angle : (attributes : List Attribute) → are_tidy attributes ≡ true →
    list_all no_angle (written_attributes attributes) ≡ true
attributes-angle [] h = refl
attributes-angle (a ∷ rest) h =
    let later = attributes-angle rest in grind (arith, all-append, name-angle, later, h)

-- the only `<` of a tag is its first byte
pub tag-angle : (name : List ℕ) (attributes : List Attribute) (more : List ℕ) →
    (is_name name ≡ true) × (are_tidy attributes ≡ true) → list_all no_angle more ≡ true →
    list_all no_angle (name ++ (written_attributes attributes ++ more)) ≡ true
tag-angle name attributes more h m =
    grind (arith, all-append, name-angle, and_parts, is_name_byte, attributes-angle)

pub first_angle : (inner before m : List ℕ) → list_all no_angle inner ≡ true →
    60 ∷ inner ≡ before ++ (60 ∷ m) → before ≡ []
first_angle inner [] m h e = refl
first_angle inner (c ∷ before) m h e =
    let none = no_angle_inside before m in grind (arith, none, h, e)
