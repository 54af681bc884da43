-- Whether a byte is there, and where it is first.
use Rattle.std.proofs.Common.{◌≡◌, ℕ, suc, ◌+◌, Bool, not, ◌||◌, cond, ltb, List, []}
use Rattle.std.proofs.Common.{◌∷◌, length, refl, sym, ◌∙◌, arith, is_some, Some, None}
use Rattle.std.specs.Prelude.{position}
use Rattle.std.specs.List.{position_or_len, list_any}
use Rattle.std.proofs.lemmas.Bool.Decides.{nat_tests}

any_step : (here any : Bool) (n len : ℕ) → any ≡ ltb n len →
    (here || any) ≡ ltb (cond (not here) (1 + n) 0) (suc len)
any_step here any n len e = grind (arith, nat_tests)

some_when : (test : Bool) (n : ℕ) → is_some (cond test (Some n) None) ≡ test
some_when test n = grind arith

module _ (p : ℕ → Bool) where
  pub any_by_place : (xs : List ℕ) → list_any p xs ≡ ltb (position_or_len p xs) (length xs)
  any_by_place [] = refl
  any_by_place (x ∷ xs) =
      any_step (p x) (list_any p xs) (position_or_len p xs) (length xs) (any_by_place xs)

  pub any_from_position : (xs : List ℕ) → is_some (position p xs) ≡ list_any p xs
  any_from_position xs = some_when (ltb (position_or_len p xs) (length xs)) (position_or_len p xs)
      ∙ sym (any_by_place xs)
