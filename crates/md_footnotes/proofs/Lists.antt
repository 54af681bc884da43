-- The rest of a list after an index.
use Rattle.std.proofs.Common.{◌≡◌, ℕ, ◌+◌, zero, suc, List, [], ◌∷◌, Some, None, is_some, drop}
use Rattle.std.proofs.Common.{refl, ap, sym, ◌∙◌, arith, unwrap_or}
use Rattle.std.specs.Prelude.{slice_get}
use Rattle.std.proofs.lemmas.Bool.{true≢false}

pub drop-found : {A : Type 0} (xs : List A) (i : ℕ) (x : A) → slice_get xs i ≡ Some x →
    drop i xs ≡ x ∷ drop (i + 1) xs
drop-found [] i x h = absurd (true≢false (sym (ap is_some h)))
drop-found (y ∷ ys) zero x h = ap (λ z. z ∷ ys) (ap (λ o. unwrap_or o x) h)
drop-found (y ∷ ys) (suc i) x h = drop-found ys i x h ∙ ap (λ n. x ∷ drop n (y ∷ ys)) (next i)
  where
    next : (m : ℕ) → suc (m + 1) ≡ suc m + 1
    next m = omega arith

pub drop-missing : {A : Type 0} (xs : List A) (i : ℕ) → slice_get xs i ≡ None → drop i xs ≡ []
drop-missing [] zero h = refl
drop-missing [] (suc i) h = refl
drop-missing (y ∷ ys) zero h = absurd (true≢false (ap is_some h))
drop-missing (y ∷ ys) (suc i) h = drop-missing ys i h
