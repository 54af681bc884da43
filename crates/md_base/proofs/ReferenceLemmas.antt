-- Digits read as a number: the result of std's reader of numbers is that of the rules of
-- references, and what the check requires of a list's number.
use Rattle.std.proofs.Common.{◌≡◌, ℕ, ◌<◌, ◌^◌, Bool, not, eqb, nat_lt, cond, ◌≢◌, inl, inr}
use Rattle.std.proofs.Common.{List, [], ◌∷◌, length, get_or, Option, Some, None, Result}
use Rattle.std.proofs.Common.{Decides, refl, sym, ap, arith}
use Rattle.std.specs.Prelude.{OkIff}
use Rattle.std.specs.Char.{digit_value}
use Rattle.std.specs.List.{list_all}
use Rattle.std.specs.Result.{result_ok}
use Rattle.std.specs.Str.Parse.{AllDigits, IsNumeral, digits_value, ParsesUnsigned}
use Rattle.std.proofs.lemmas.Bool.{cases_Bool}
use Rattle.std.proofs.lemmas.Str.Parse.{without_leading_plus_none}
use Rattle.md_base.specs.Reference.{is_number, character_of, numbered}

-- ---- a number

all_digits-Decides : (radix : ℕ) (digits : List ℕ) → Decides
    (list_all (λ digit. nat_lt (digit_value digit) radix) digits) (AllDigits radix digits)
all_digits-Decides radix [] = (λ _. tt, λ _. refl)
all_digits-Decides radix (digit ∷ digits) =
    let later = all_digits-Decides radix digits in
    grind (arith, later)

some_digits-Decides : (digits : List ℕ) → Decides (not (eqb (length digits) 0)) (0 < length digits)
some_digits-Decides digits = grind arith

pub is_number-Decides : (radix : ℕ) (digits : List ℕ) →
    Decides (is_number radix digits) (IsNumeral radix digits × (digits_value radix digits < 2 ^ 32))
is_number-Decides radix digits = grind (arith, some_digits-Decides, all_digits-Decides)

-- ---- the result of `from_str_radix` if the text doesn't begin with a plus

abbrev chosen_number : ℕ → List ℕ → Bool → Option (List ℕ)
chosen_number radix digits test = cond test (Some (character_of (digits_value radix digits))) None

read_ok : {E : Type 0} (r : Result ℕ E) (P : Type 0) (n v : ℕ) → Some n ≡ result_ok r →
    OkIff r P v → P × (n ≡ v)
read_ok r P n v e h = grind arith

read_none : {E : Type 0} (r : Result ℕ E) (P : Type 0) (v : ℕ) →
    None ≡ result_ok r → OkIff r P v → ¬ P
read_none r P v e h = grind arith

plain : {E : Type 0} (radix : ℕ) (digits : List ℕ) (r : Result ℕ E) → get_or digits 0 0 ≢ 43 →
    ParsesUnsigned 32 radix digits r → OkIff r (IsNumeral radix digits
    × (digits_value radix digits < 2 ^ 32)) (digits_value radix digits)
plain radix digits r no_plus h = grind (arith, without_leading_plus_none)

pub numbered_ok : {E : Type 0} (radix : ℕ) (digits : List ℕ) (r : Result ℕ E) (code : ℕ) →
    get_or digits 0 0 ≢ 43 →
    ParsesUnsigned 32 radix digits r → Some code ≡ result_ok r →
    Some (character_of code) ≡ numbered radix digits
numbered_ok radix digits r code no_plus parsed e =
    let read = read_ok r _ code (digits_value radix digits) e
    (plain radix digits r no_plus parsed) in
    rw (read.1, (is_number-Decides radix digits).1 read.0) refl

pub numbered_none : {E : Type 0} (radix : ℕ) (digits : List ℕ) (r : Result ℕ E) →
    get_or digits 0 0 ≢ 43 →
    ParsesUnsigned 32 radix digits r → None ≡ result_ok r → None ≡ numbered radix digits
numbered_none radix digits r no_plus parsed e =
    let no = read_none r _ (digits_value radix digits) e (plain radix digits r no_plus parsed) in
    elim (cases_Bool (is_number radix digits)) [
      | inl holds ↦ absurd (no ((is_number-Decides radix digits).0 holds))
      | inr isnt ↦ sym (ap (chosen_number radix digits) isnt)
    ]
