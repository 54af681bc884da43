-- Zeros before a number are removed one by one.
use Rattle.std.proofs.Common.{◌≡◌, ℕ, Bool, true, false, ◌&&◌, List, [], ◌∷◌, length, refl, ap, sym}
use Rattle.std.proofs.Common.{◌∙◌, arith}
use Rattle.std.specs.Prelude.{if◌then◌else◌, ◌==◌, nat_lt}
use Rattle.std.proofs.lemmas.Bool.{lt-ltb}
use Rattle.md_printer.specs.Parts.{unpadded, has_leading_zero}
use Rattle.md_meaning.specs.Meaning.Blocks.{without_zeros}

-- zeros before a number
pub zeros-same : (digits : List ℕ) → unpadded digits ≡ without_zeros digits
zeros-same [] = refl
zeros-same (digit ∷ digits) =
    let choose : Bool → List ℕ → List ℕ = λ b rest. if b then rest else digit ∷ digits in
    ap (choose (has_leading_zero (digit ∷ digits))) (zeros-same digits)
    ∙ ap (λ b. choose b (without_zeros digits)) (leading digits)
  where
    swapped : (a b : Bool) → a && b ≡ b && a
    swapped true true = refl
    swapped true false = refl
    swapped false true = refl
    swapped false false = refl

    leading : (others : List ℕ) → nat_lt 1 (length (digit ∷ others)) && (digit == 48)
        ≡ (digit == 48) && nat_lt 0 (length others)
    leading [] = swapped false (digit == 48)
    leading (other ∷ others) =
        ap (λ b. b && (digit == 48)) (lt-ltb 1 (length (digit ∷ other ∷ others)) (omega arith))
        ∙ swapped true (digit == 48)
        ∙ ap (λ b. (digit == 48) && b) (sym (lt-ltb 0 (length (other ∷ others)) (omega arith)))
