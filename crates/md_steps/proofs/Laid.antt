-- Pieces are laid out in parts, and a captured text on its own.
use Rattle.std.proofs.Common.{◌≡◌, ℕ, List, [], ◌∷◌, ◌++◌, refl, arith}
use Rattle.std.specs.Prelude.{if◌then◌else◌}
use Rattle.md_meaning.specs.Meaning.Layout.{Piece, Text, Needed, Forced, laid_after, begins_line}

pub laid-append : (ending text : List ℕ) (xs ys : List Piece) →
    laid_after ending text (xs ++ ys) ≡ laid_after ending (laid_after ending text xs) ys
laid-append ending text [] ys = refl
laid-append ending text (Text more ∷ xs) ys = laid-append ending (text ++ more) xs ys
laid-append ending text (Needed ∷ xs) ys =
    laid-append ending (if begins_line text then text else text ++ ending) xs ys
laid-append ending text (Forced ∷ xs) ys = laid-append ending (text ++ ending) xs ys

-- a node in three parts
pub three : (ending text : List ℕ) (xs ys zs : List Piece) →
    laid_after ending (laid_after ending (laid_after ending text xs) ys) zs
    ≡ laid_after ending text (xs ++ (ys ++ zs))
three ending text xs ys zs = grind (arith, laid-append)
