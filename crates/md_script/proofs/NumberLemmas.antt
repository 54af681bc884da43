-- Decimal digits read in sequence.
use Rattle.std.proofs.Common.{◌≡◌, ℕ, zero, suc, ◌+◌, ◌-◌, ◌*◌, ◌<◌, ◌≤◌, true, false}
use Rattle.std.proofs.Common.{leb, List, [], ◌∷◌, ◌++◌, length, get_or, take}
use Rattle.std.proofs.Common.{None, refl, ap, ◌∙◌, arith}
use Rattle.std.specs.Char.{is_ascii_digit}
use Rattle.std.specs.Str.{all_ascii_digits}
use Rattle.std.specs.Str.Parse.{digits_value}
use Rattle.std.proofs.lemmas.Bool.{and_parts, and_from, and_left, leb-true}
use Rattle.std.proofs.lemmas.List.{take_more, length-take-le}
use Rattle.std.proofs.lemmas.Int.Digits.{digits_value_more}
use Rattle.std.proofs.lemmas.Str.{digit_value_digit}
use Rattle.std.proofs.lemmas.Str.Parse.{IsNumeralModel, numerals_by_value, tells_all_ascii_digits}
use Rattle.std.proofs.lemmas.Str.Parse.{digits_value_short}
use Rattle.md_script.specs.Number.{number_of}

abbrev IsDigits : List ℕ → Type 0
IsDigits digits = all_ascii_digits digits ≡ true

model : IsNumeralModel IsDigits (digits_value 10)
model = numerals_by_value IsDigits tells_all_ascii_digits

-- few digits encode a small number
pub value_few : (bytes : List ℕ) (i : ℕ) → all_ascii_digits (take i bytes) ≡ true →
    i ≤ length bytes → i ≤ 9 →
    digits_value 10 (take i bytes) < 1000000000
value_few bytes i all inside few =
    let e = length-take-le i bytes inside in
    digits_value_short model (take i bytes) 9 all (omega (arith, e, few))

digit_range : (c : ℕ) → is_ascii_digit c ≡ true → (48 ≤ c) × (c ≤ 57)
digit_range c h =
    let parts = and_parts (leb 48 c) (leb c 57) h in (leb-true 48 c parts.0, leb-true c 57 parts.1)

push_digits : (digits : List ℕ) (c : ℕ) → all_ascii_digits digits ≡ true → is_ascii_digit c ≡ true →
    all_ascii_digits (digits ++ c ∷ []) ≡ true
push_digits [] c all digit = and_from (is_ascii_digit c) true digit refl
push_digits (d ∷ digits) c all digit =
    let more = push_digits digits c in grind (arith, more, all, digit)

pub digits_more : (digits : List ℕ) (i : ℕ) → i < length digits →
    all_ascii_digits (take i digits) ≡ true →
    is_ascii_digit (get_or digits i 0) ≡ true → all_ascii_digits (take (i + 1) digits) ≡ true
digits_more digits i inside all digit = ap all_ascii_digits (take_more digits i 0 inside)
    ∙ push_digits (take i digits) (get_or digits i 0) all digit

pub value_more : (digits : List ℕ) (i number : ℕ) → i < length digits →
    number ≡ digits_value 10 (take i digits) →
    is_ascii_digit (get_or digits i 0) ≡ true → number * 10 + (get_or digits i 0 - 48)
    ≡ digits_value 10 (take (i + 1) digits)
value_more digits i number inside e digit =
    grind (arith, digit_range, digits_value_more, digit_value_digit)

not_all : (digits : List ℕ) (i : ℕ) → i < length digits →
    is_ascii_digit (get_or digits i 0) ≡ false →
    all_ascii_digits digits ≡ false
not_all [] i inside other = absurd (omega (arith, inside))
not_all (d ∷ digits) zero inside other = and_left (is_ascii_digit d) (all_ascii_digits digits) other
not_all (d ∷ digits) (suc i) inside other =
    let later = not_all digits i (omega (arith, inside)) other in grind (arith, later)

pub number_none : (most : ℕ) (digits : List ℕ) (i : ℕ) → i < length digits →
    is_ascii_digit (get_or digits i 0) ≡ false → None ≡ number_of most digits
number_none most digits i inside other =
    let none = not_all digits i inside other in grind (arith, none)
