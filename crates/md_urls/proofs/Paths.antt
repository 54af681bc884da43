-- Directories, and segments that are joined.
use Rattle.std.proofs.Common.{◌≡◌, ◌++◌, ◌∷◌, ◌==◌, [], ℕ, List, true, false, refl, sym, ap}
use Rattle.std.proofs.Common.{append-nil, flat_map, arith}
use Rattle.std.proofs.lemmas.List.Folds.{list_any-append}
use Rattle.std.specs.List.{join_with_byte, list_any}
use Rattle.md_urls.specs.Resolved.{directory}

-- what is after the last slash is no part of the directory
pub directory-other : (front : List ℕ) (byte : ℕ) → (byte == 47) ≡ false →
    directory (front ++ byte ∷ []) ≡ directory front
directory-other [] byte is_other = rw is_other refl
directory-other (first ∷ rest) byte is_other =
    rw (list_any-append (λ b. b == 47) rest (byte ∷ []), is_other, directory-other rest byte is_other)
    (grind arith)

has-slash : (front : List ℕ) → list_any (λ b. b == 47) (front ++ 47 ∷ []) ≡ true
has-slash front = rw (list_any-append (λ b. b == 47) front (47 ∷ [])) (grind arith)

-- a path that ends in a slash is its own directory
pub directory-slash : (front : List ℕ) → directory (front ++ 47 ∷ []) ≡ front ++ 47 ∷ []
directory-slash [] = refl
directory-slash (first ∷ rest) = rw (has-slash (first ∷ rest), directory-slash rest) refl

-- each segment but the first has a slash before it
pub joined-first : (first : List ℕ) (rest : List (List ℕ)) →
    join_with_byte 47 (first ∷ rest) ≡ first ++ flat_map (λ part. 47 ∷ part) rest
joined-first first [] = sym (append-nil first)
joined-first first (next ∷ rest) = ap (λ text. first ++ 47 ∷ text) (joined-first next rest)
