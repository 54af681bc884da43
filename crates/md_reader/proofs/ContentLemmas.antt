-- What two lists of elements allow is what either allows.
use Rattle.std.proofs.Common.{◌≡◌, ℕ, List, [], ◌∷◌, ◌++◌, Option, Some, None, arith}
use Rattle.std.proofs.Common.{MatchOption, refl, ◌∙◌}
use Rattle.md_safe.specs.Contents as contents
use Rattle.md_reader.specs.Allowed.{held_among, IsAllowed}
use Rattle.md_reader.specs.declared.content.Allowed.{Allowed}

held-left : (xs ys : List (List ℕ × contents.Content)) (name : List ℕ) (held : contents.Content) →
    held_among xs name ≡ Some held → held_among (xs ++ ys) name ≡ Some held
held-left [] ys name held h = cc
held-left (x ∷ xs) ys name held h = let later = held-left xs ys name held in grind (arith, later)

held-right : (xs ys : List (List ℕ × contents.Content)) (name : List ℕ) →
    held_among xs name ≡ None → held_among (xs ++ ys) name ≡ held_among ys name
held-right [] ys name h = refl
held-right (x ∷ xs) ys name h = let later = held-right xs ys name in grind (arith, later)

pub allowed-left : (xs ys : List (List ℕ × contents.Content)) (name : List ℕ) (found : Allowed) →
    IsAllowed xs name found → IsAllowed (xs ++ ys) name found
allowed-left xs ys name found h = record {
  held = held-left xs ys name _ h.held;
  tag = h.tag;
  only = h.only;
  no_void = h.no_void;
}

pub allowed-right : (xs ys : List (List ℕ × contents.Content)) (name : List ℕ)
    (r : Option Allowed) → held_among xs name ≡ None →
    MatchOption r (held_among ys name ≡ None) (λ found. IsAllowed ys name found) →
    MatchOption r (held_among (xs ++ ys) name ≡ None) (λ found. IsAllowed (xs ++ ys) name found)
allowed-right xs ys name None none h = held-right xs ys name none ∙ h
allowed-right xs ys name (Some found) none h = record {
  held = held-right xs ys name none ∙ h.held;
  tag = h.tag;
  only = h.only;
  no_void = h.no_void;
}
