-- What follows from each of two tests follows where one of them holds; and what holds of each of
-- some things holds of one of them, and what follows from it of each.
use Rattle.std.specs.List.{list_all}
use Rattle.std.specs.Cmp.Lexicographic.{bytes_decides}
use Rattle.std.proofs.Common.{◌≡◌, ℕ, Bool, true, ◌||◌, List, [], ◌∷◌, inl, inr, refl, sym, subst}
use Rattle.std.proofs.Common.{arith, false, Option, Some, None}
use Rattle.std.proofs.lemmas.Bool.{or_cases, and_parts, cases_Bool}
use Rattle.md_base.proofs.Lies.{lie}
use Rattle.md_text.specs.Bytes.{is_one_of}
use Rattle.std.specs.Prelude.{unwrap_or}
use Rattle.md_base.specs.Children.{or_else}
pub use Rattle.md_text.proofs.HtmlNames.{one_of-passes}

pub either : {A : Type 0} (a b : Bool) → (a || b) ≡ true → (a ≡ true → A) → (b ≡ true → A) → A
either a b h f g = elim (or_cases a b h) [ inl is ↦ f is | inr is ↦ g is ]

pub cases : {A : Type 0} (b : Bool) → (b ≡ true → A) → (b ≡ false → A) → A
cases b f g = elim (cases_Bool b) [ inl e ↦ f e | inr e ↦ g e ]

-- what holds of what is there, if it is there
abbrev pub OnSome : {A : Type 0} → (A → Type 0) → Option A → Type 0
OnSome P None = Unit {0}
OnSome P (Some x) = P x

pub on-later : {A : Type 0} (P : A → Type 0) (first later : Option A) → OnSome P first →
    OnSome P later → OnSome P (or_else later first)
on-later P first later f g = grind arith

pub on-either : {A : Type 0} (P : A → Type 0) (found : Option A) (before : A) → OnSome P found →
    P before → P (unwrap_or found before)
on-either P found before f g = grind arith

pub all-weaker : {A : Type 0} (p q : A → Bool) → ((a : A) → p a ≡ true → q a ≡ true) →
    (xs : List A) → list_all p xs ≡ true → list_all q xs ≡ true
all-weaker p q weaker [] h = refl
all-weaker p q weaker (x ∷ xs) h = grind (arith, weaker x, all-weaker p q weaker xs)
