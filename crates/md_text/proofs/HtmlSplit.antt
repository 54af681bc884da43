-- How two equal texts split: the longest runs, the attributes, the names. The proof that no text
-- has two readings depends on it.
use Rattle.std.proofs.Common.{arith, ◌≡◌, ℕ, Bool, true, false, not, ◌⊎◌, List, [], ◌∷◌, ◌++◌, refl}
use Rattle.std.proofs.Common.{sym}
use Rattle.std.specs.List.{list_all}
use Rattle.md_text.specs.Html.{Attribute}
use Rattle.md_text.proofs.HtmlNames.{is_name, is_name_byte, no_quote, are_tidy}
use Rattle.md_text.proofs.HtmlWriting.{attributes_before}

-- the text is empty, or begins with a byte that fails the test
abbrev pub stops : (ℕ → Bool) → List ℕ → Bool
stops t [] = true
stops t (b ∷ rest) = not (t b)

-- the longest runs that pass a test are the same, and so is what follows them
pub split : (t : ℕ → Bool) (x y a b : List ℕ) → list_all t x ≡ true →
    list_all t y ≡ true → stops t a ≡ true →
    stops t b ≡ true → x ++ a ≡ y ++ b → (x ≡ y) × (a ≡ b)
split t [] [] a b hx hy sa sb e = (refl, e)
split t [] (c ∷ y) a b hx hy sa sb e = grind (arith, e, hy, sa)
split t (c ∷ x) [] a b hx hy sa sb e = grind (arith, e, hx, sb)
split t (c ∷ x) (d ∷ y) a b hx hy sa sb e =
    let later : x ++ a ≡ y ++ b = cc in
    grind (arith, e, hx, hy, split t x y a b, sa, sb, later)

-- the rest of a tag after its attributes: `>` or ` /`
abbrev pub EndsAttributes : List ℕ → Type 0
EndsAttributes r = ((more : List ℕ) × (r ≡ 62 ∷ more)) ⊎ ((more : List ℕ) × (r ≡ 32 ∷ 47 ∷ more))

-- a name isn't where another byte stands
pub name-not : (n : ℕ) (name tail more : List ℕ) → is_name_byte n ≡ false → is_name name ≡ true →
    name ++ tail ≡ n ∷ more → ⊥
name-not n name tail more no_byte h e = grind arith

no_attribute : (a : Attribute) (rest : List Attribute) (r s : List ℕ) → are_tidy (a ∷ rest) ≡ true →
    EndsAttributes r → r ≡ attributes_before (a ∷ rest) s → ⊥
no_attribute a rest r s h ends e = grind (arith, name-not)

-- attributes that are written alike are the same, and so is what follows them
pub same_attributes : (x y : List Attribute) (r s : List ℕ) →
    are_tidy x ≡ true → are_tidy y ≡ true →
    EndsAttributes r → EndsAttributes s → attributes_before x r ≡ attributes_before y s →
    (x ≡ y) × (r ≡ s)
same_attributes [] [] r s hx hy er es e = (refl, e)
same_attributes [] (b ∷ y) r s hx hy er es e = absurd (no_attribute b y r s hy er e)
same_attributes (a ∷ x) [] r s hx hy er es e = absurd (no_attribute a x s r hx es (sym e))
same_attributes (a ∷ x) (b ∷ y) r s hx hy er es e =
    let tails : a.name ++ (61 ∷ 34 ∷ (a.value ++ (34 ∷ attributes_before x r))) ≡ b.name
    ++ (61 ∷ 34 ∷ (b.value ++ (34 ∷ attributes_before y s))) = cc in
    let names = split is_name_byte a.name b.name _ _ (grind (arith, hx)) (grind (arith, hy)) refl
    refl tails in
    let values_on :
    a.value ++ (34 ∷ attributes_before x r) ≡ b.value ++ (34 ∷ attributes_before y s) = cc in
    let values = split no_quote a.value b.value _ _ (grind (arith, hx)) (grind (arith, hy)) refl
    refl values_on in
    let later_on : attributes_before x r ≡ attributes_before y s = cc in
    let later = same_attributes x y r s (grind (arith, hx)) (grind (arith, hy)) er es later_on in
    ((λ i. record { name = names.0 i; value = values.0 i } ∷ later.0 i), later.1)
