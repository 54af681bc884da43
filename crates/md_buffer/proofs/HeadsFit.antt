-- Where heads fit into some bytes, and where heads that are added to them fit.
use Rattle.std.proofs.Common.{◌≡◌, ℕ, ◌≤◌, ◌<◌, ◌⊎◌, inl, inr, List, [], ◌∷◌, ◌++◌, length, take}
use Rattle.std.proofs.Common.{drop, ap, sym, subst, ◌∙◌, arith, length-append}
use Rattle.std.proofs.lemmas.List.{take-take, take-append-le, take-append-drop}
use Rattle.std.proofs.lemmas.Str.{IsCharBoundary-from_take}
use Rattle.std.specs.Str.{IsUtf8, IsCharBoundary}
use Rattle.md_buffer.specs.declared.heads.Head.{Head}
use Rattle.md_buffer.specs.Waiting.{IsHead, Fit}

pub fit-bound : (bytes heads : List ℕ) (limit from : ℕ) (waiting : List Head) →
    Fit bytes heads limit from waiting → from ≤ limit
fit-bound bytes heads limit from [] fit = fit.0
fit-bound bytes heads limit from (head ∷ waiting) fit =
    let later = fit-bound bytes heads limit head.place waiting fit.4 in
    grind (arith, later)

pub fit-utf8 : (bytes heads : List ℕ) (limit from : ℕ) (waiting : List Head) →
    Fit bytes heads limit from waiting → IsUtf8 (take from bytes)
fit-utf8 bytes heads limit from [] fit = fit.1
fit-utf8 bytes heads limit from (head ∷ waiting) fit = fit.1

-- the bytes may be parted there
pub fit-boundary : (bytes heads : List ℕ) (from : ℕ) (waiting : List Head) → IsUtf8 bytes →
    Fit bytes heads (length bytes) from waiting → IsCharBoundary bytes from
fit-boundary bytes heads from waiting utf8 fit =
    IsCharBoundary-from_take bytes from utf8 (fit-bound bytes heads (length bytes) from waiting fit)
    (fit-utf8 bytes heads (length bytes) from waiting fit)

-- from an earlier place on
pub fit-from : (bytes heads : List ℕ) (limit from place : ℕ) (waiting : List Head) → from ≤ place →
    IsUtf8 (take from bytes) → Fit bytes heads limit place waiting →
    Fit bytes heads limit from waiting
fit-from bytes heads limit from place [] ordered utf8 fit =
    (let a : place ≤ limit = fit.0 in omega arith, utf8)
fit-from bytes heads limit from place (head ∷ waiting) ordered utf8 fit = grind arith

pub sooner : (xs ys : List ℕ) (limit from : ℕ) → from ≤ limit → take limit xs ≡ take limit ys →
    take from xs ≡ take from ys
sooner xs ys limit from within same =
    sym (take-take from limit xs within) ∙ ap (λ t. take from t) same
    ∙ take-take from limit ys within

-- with the same bytes before the limit
pub fit-same : (xs ys heads : List ℕ) (limit from : ℕ) (waiting : List Head) →
    take limit xs ≡ take limit ys →
    Fit xs heads limit from waiting → Fit ys heads limit from waiting
fit-same xs ys heads limit from [] same fit =
    (fit.0, subst (λ t. IsUtf8 t) (sooner xs ys limit from fit.0 same) fit.1)
fit-same xs ys heads limit from (head ∷ waiting) same fit =
    let later = fit-same xs ys heads limit head.place waiting same fit.4 in
    grind (arith, sooner, fit-bound, later)

-- up to a later limit
pub fit-more : (bytes heads : List ℕ) (limit more from : ℕ) (waiting : List Head) → limit ≤ more →
    Fit bytes heads limit from waiting → Fit bytes heads more from waiting
fit-more bytes heads limit more from [] longer fit =
    (let a : from ≤ limit = fit.0 in omega arith, fit.1)
fit-more bytes heads limit more from (head ∷ waiting) longer fit =
    let later = fit-more bytes heads limit more head.place waiting longer fit.4 in
    grind (arith, later)
  where
    later : (place : ℕ) (P : Type 0) → (P ⊎ (place < limit)) → (P ⊎ (place < more))
    later place P (inl e) = inl e
    later place P (inr within) = inr (omega arith)

-- with heads that are added
pub is_head-more : (heads more : List ℕ) (head : Head) → IsHead heads head →
    IsHead (heads ++ more) head
is_head-more heads more head is = grind (arith, length-append, take-append-le)

pub fit-heads : (bytes heads more : List ℕ) (limit from : ℕ) (waiting : List Head) →
    Fit bytes heads limit from waiting → Fit bytes (heads ++ more) limit from waiting
fit-heads bytes heads more limit from [] fit = fit
fit-heads bytes heads more limit from (head ∷ waiting) fit = (
  fit.0,
  fit.1,
  is_head-more heads more head fit.2,
  fit.3,
  fit-heads bytes heads more limit head.place waiting fit.4,
)

-- so with some that are left out
pub fit-all : (bytes heads : List ℕ) (some limit from : ℕ) (waiting : List Head) →
    Fit bytes (take some heads) limit from waiting → Fit bytes heads limit from waiting
fit-all bytes heads some limit from waiting fit =
    subst (λ hs. Fit bytes hs limit from waiting) (take-append-drop some heads)
    (fit-heads bytes (take some heads) (drop some heads) limit from waiting fit)
