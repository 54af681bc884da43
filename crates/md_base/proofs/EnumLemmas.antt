-- A derived `==` decides whether two values of an enum are one, also where some
-- variants have fields.
use Rattle.std.proofs.Common.{arith, ◌≡◌, Bool, true, false, ◌⊎◌, Decides, List, [], ◌∷◌, refl, sym}
use Rattle.std.proofs.Common.{ap, subst, inl, inr}
use Rattle.std.proofs.lemmas.Bool.{false≢true}
use denote.Struct.Field.{Field}
use denote.Struct.Values.{Values}
use denote.Enum.Declared.{Record, Choice, values_one}
use denote.Enum.Compared.{Each, by}

-- a test for each variant that has fields, which decides whether their values are equal
abbrev pub Tests : List (List Field) → Type 0
Tests [] = Unit {0}
Tests ([] ∷ variants) = Tests variants
Tests ((field ∷ fields) ∷ variants) =
    ((test : Values (field ∷ fields) → Values (field ∷ fields) → Bool)
    × ((x y : Values (field ∷ fields)) → Decides (test x y) (x ≡ y)))
    × Tests variants

-- the tests of all variants: two values of one that has no field are equal
abbrev pub each_of : (variants : List (List Field)) → Tests variants → Each Bool variants
each_of [] tests = tt
each_of ([] ∷ variants) tests = (λ _ _. true, each_of variants tests)
each_of ((field ∷ fields) ∷ variants) tests = (tests.0.0, each_of variants tests.1)

abbrev OnLeft : {A B : Type 0} → A ⊎ B → Type 0
OnLeft (inl x) = Unit {0}
OnLeft (inr y) = ⊥

abbrev left_or : {A B : Type 0} → A → A ⊎ B → A
left_or a (inl x) = x
left_or a (inr y) = a

abbrev right_or : {A B : Type 0} → B → A ⊎ B → B
right_or b (inl x) = b
right_or b (inr y) = y

-- the two sides of a sum, which name it
abbrev at_left : {A : Type 0} (B : Type 0) → A → A ⊎ B
at_left B x = inl x

abbrev at_right : (A : Type 0) {B : Type 0} → B → A ⊎ B
at_right A y = inr y

left_decides : {A B : Type 0} (x y : A) (answer : Bool) → Decides answer (x ≡ y) →
    Decides answer (at_left B x ≡ at_left B y)
left_decides x y answer d = (λ e. ap inl (d.0 e), λ e. d.1 (ap (left_or x) e))

right_decides : {A B : Type 0} (x y : B) (answer : Bool) → Decides answer (x ≡ y) →
    Decides answer (at_right A x ≡ at_right A y)
right_decides x y answer d = (λ e. ap inr (d.0 e), λ e. d.1 (ap (right_or x) e))

apart_decides : {A B : Type 0} (x : A) (y : B) → Decides false (at_left B x ≡ at_right A y)
apart_decides x y = (λ e. absurd (false≢true e), λ e. absurd (subst OnLeft e tt))

apart_too : {A B : Type 0} (x : A) (y : B) → Decides false (at_right A y ≡ at_left B x)
apart_too x y = (λ e. absurd (false≢true e), λ e. absurd (subst OnLeft (sym e) tt))

pub by_decides : (variants : List (List Field)) (tests : Tests variants) (a b : Choice variants) →
    Decides (by false false variants (each_of variants tests) a b) (a ≡ b)
by_decides [] tests a b = absurd a
by_decides ([] ∷ variants) tests (inl x) (inl y) = left_decides x y true (λ _. refl, λ _. refl)
by_decides ([] ∷ variants) tests (inl x) (inr y) = apart_decides x y
by_decides ([] ∷ variants) tests (inr x) (inl y) = apart_too y x
by_decides ([] ∷ variants) tests (inr x) (inr y) =
    right_decides x y _ (by_decides variants tests x y)
by_decides ((field ∷ fields) ∷ variants) tests (inl x) (inl y) = left_decides x y _ (tests.0.1 x y)
by_decides ((field ∷ fields) ∷ variants) tests (inl x) (inr y) = apart_decides x y
by_decides ((field ∷ fields) ∷ variants) tests (inr x) (inl y) = apart_too y x
by_decides ((field ∷ fields) ∷ variants) tests (inr x) (inr y) =
    right_decides x y _ (by_decides variants tests.1 x y)

-- the same for the author's own values
pub same_decides : (enum : Record) (tests : Tests enum.parts) (a b : enum.D) →
    Decides (by false false enum.parts (each_of enum.parts tests) (enum.as_values a)
    (enum.as_values b)) (a ≡ b)
same_decides enum tests a b = grind (arith, by_decides, values_one)
