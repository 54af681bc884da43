-- A list of events is the flattening of at most one document.
use Rattle.std.proofs.Common.{◌≡◌, List, [], ◌∷◌, ◌++◌, refl, ap, append_assoc, arith}
use Rattle.md_tree.proofs.Common.{Point, Name, Event, Forest, Empty, Node, flatten, exiting}

list_parts : (x y : Event) (xs ys : List Event) → x ∷ xs ≡ y ∷ ys → (x ≡ y) × (xs ≡ ys)
list_parts x y xs ys e = let h : x ≡ y = cc in let t : xs ≡ ys = cc in (h, t)

one_forest : (one other : Forest) (n m : Name) (p q : Point) (xs ys : List Event) →
    flatten one ++ exiting n p ∷ xs ≡ flatten other ++ exiting m q ∷ ys →
    (one ≡ other) × (exiting n p ∷ xs ≡ exiting m q ∷ ys)
one_forest Empty Empty n m p q xs ys e = (refl, e)
one_forest Empty (Node name start end children rest) n m p q xs ys e = grind arith
one_forest (Node name start end children rest) Empty n m p q xs ys e = grind arith
one_forest (Node name start end children rest) (Node other begin stop inner more) n m p q xs ys e =
    grind (arith, list_parts, append_assoc, one_forest children inner, one_forest rest more)

pub flatten_one : (n : Name) (p : Point) (one other : Forest) →
    flatten one ≡ flatten other → one ≡ other
flatten_one n p one other e =
    (one_forest one other n n p p [] [] (ap (λ es. es ++ exiting n p ∷ []) e)).0
