-- Identifiers of calls, each once: which are among some, and what leaving one out changes.
use Rattle.std.proofs.Common.{◌≡◌, ℕ, ◌+◌, Bool, true, false, ◌||◌, not, cond, List, [], ◌∷◌, refl}
use Rattle.std.proofs.Common.{ap, sym, ◌∙◌, arith, bytes_eq}
use Rattle.std.specs.Prelude.{if◌then◌else◌, filter}
use Rattle.std.specs.List.{list_any}
use Rattle.std.specs.Bool.{one_answer}
use Rattle.std.proofs.lemmas.Bool.{or_parts}
use Rattle.std.proofs.lemmas.Slice.Eq.{bytes_eq-Decides}
use Rattle.md_meaning.specs.Meaning.Footnotes.{distinct, count_of}

-- an identifier is among some
abbrev pub is_in : List ℕ → List (List ℕ) → Bool
is_in identifier others = list_any (λ other. bytes_eq other identifier) others

-- the others than one
abbrev pub others_than : List ℕ → List (List ℕ) → List (List ℕ)
others_than x ys = filter (λ other. not (bytes_eq other x)) ys

-- no two are the same
abbrev pub Apart : List (List ℕ) → Type 0
Apart [] = Unit {0}
Apart (x ∷ xs) = (is_in x xs ≡ false) × Apart xs

pub same : (xs ys : List ℕ) → bytes_eq xs ys ≡ true → xs ≡ ys
same xs ys h = (bytes_eq-Decides xs ys).0 h

pub itself : (xs : List ℕ) → bytes_eq xs xs ≡ true
itself xs = (bytes_eq-Decides xs xs).1 refl

pub bytes_eq-sym : (xs ys : List ℕ) → bytes_eq xs ys ≡ bytes_eq ys xs
bytes_eq-sym xs ys = one_answer (bytes_eq xs ys) (bytes_eq ys xs) (bytes_eq-Decides xs ys) (
  (λ h. sym (same ys xs h)),
  (λ e. (bytes_eq-Decides ys xs).1 (sym e)),
)

-- who isn't left out stays
pub others_stay : (x z : List ℕ) (ys : List (List ℕ)) → bytes_eq x z ≡ false →
    is_in z (others_than x ys) ≡ is_in z ys
others_stay x z [] h = refl
others_stay x z (y ∷ ys) h =
    elim (bytes_eq y x) as
    (λ b. bytes_eq y x ≡ b → is_in z (cond (not b) (y ∷ others_than x ys) (others_than x ys))
    ≡ bytes_eq y z || is_in z ys) [
      | true ↦ λ e. others_stay x z ys h
          ∙ ap (λ b. b || is_in z ys) (sym (ap (λ w. bytes_eq w z) (same y x e) ∙ h))
      | false ↦ λ e. ap (λ b. bytes_eq y z || b) (others_stay x z ys h)
    ] refl

-- an identifier that is removed doesn't occur
pub left_out : (x : List ℕ) (ys : List (List ℕ)) → is_in x (others_than x ys) ≡ false
left_out x [] = refl
left_out x (y ∷ ys) =
    elim (bytes_eq y x) as
    (λ b. bytes_eq y x ≡ b → is_in x (cond (not b) (y ∷ others_than x ys) (others_than x ys))
    ≡ false) [
      | true ↦ λ e. left_out x ys
      | false ↦ λ e. ap (λ b. b || is_in x (others_than x ys)) e ∙ left_out x ys
    ] refl

pub others-apart : (x : List ℕ) (ys : List (List ℕ)) → Apart ys → Apart (others_than x ys)
others-apart x [] apart = tt
others-apart x (y ∷ ys) apart =
    elim (bytes_eq y x) as
    (λ b. bytes_eq y x ≡ b → Apart (cond (not b) (y ∷ others_than x ys) (others_than x ys))) [
      | true ↦ λ e. others-apart x ys apart.1
      | false ↦ λ e. (
        others_stay x y ys (bytes_eq-sym x y ∙ e) ∙ apart.0,
        others-apart x ys apart.1,
      )
    ] refl

-- the distinct identifiers are the same ones, without repetition
pub is_in-distinct : (xs : List (List ℕ)) (z : List ℕ) → is_in z (distinct xs) ≡ is_in z xs
is_in-distinct [] z = refl
is_in-distinct (x ∷ xs) z =
    elim (bytes_eq x z) as
    (λ b. bytes_eq x z ≡ b → b || is_in z (others_than x (distinct xs)) ≡ b || is_in z xs) [
      | true ↦ λ e. refl
      | false ↦ λ e. others_stay x z (distinct xs) e ∙ is_in-distinct xs z
    ] refl

pub distinct-apart : (calls : List (List ℕ)) → Apart (distinct calls)
distinct-apart [] = tt
distinct-apart (call ∷ calls) = (
  left_out call (distinct calls),
  others-apart call (distinct calls) (distinct-apart calls),
)

zero_plus : (n : ℕ) → 0 + n ≡ n
zero_plus n = omega arith

-- an identifier that doesn't occur has no call
pub count-missing : (calls : List (List ℕ)) (z : List ℕ) → is_in z calls ≡ false →
    count_of calls z ≡ 0
count-missing [] z h = refl
count-missing (call ∷ calls) z h =
    ap (λ b. (if b then 1 else 0) + count_of calls z)
    (or_parts (bytes_eq call z) (is_in z calls) h).0 ∙ zero_plus (count_of calls z)
    ∙ count-missing calls z (or_parts (bytes_eq call z) (is_in z calls) h).1
