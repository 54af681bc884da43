-- Bytes with heads inserted: when bytes or heads are added, and when there are none.
use Rattle.std.proofs.Common.{◌≡◌, ℕ, ◌+◌, ◌-◌, ◌≤◌, ◌<◌, ◌⊎◌, inl, inr}
use Rattle.std.proofs.Common.{true, false, zero, suc, List, [], ◌∷◌, ◌++◌, length, take, drop}
use Rattle.std.proofs.Common.{set, refl, ap, sym, ◌∙◌, arith, append_assoc}
use Rattle.std.proofs.lemmas.List.{take-take, take-append-le, drop-append-le, drop_all}
use Rattle.std.proofs.lemmas.List.{take-append-drop, length-take-le, drop-take, length-take}
use Rattle.std.proofs.lemmas.Bool.{eqb-true, true≢false}
use Rattle.md_buffer.specs.declared.heads.Head.{Head}
use Rattle.md_buffer.specs.Waiting.{text_of, merged, Fit, is_open, without_open, waits}
use Rattle.md_buffer.proofs.HeadsFit.{fit-bound, fit-from}

-- nothing is between a place and itself
pub nothing : (from : ℕ) (bytes : List ℕ) → drop from (take from bytes) ≡ []
nothing from bytes = grind (arith, drop_all, length-take)

-- what is between two places
pub between : (bytes : List ℕ) (from to : ℕ) → from ≤ to →
    take (to - from) (drop from bytes) ≡ drop from (take to bytes)
between bytes from to ordered =
    sym (drop-take from (to - from) bytes)
    ∙ ap (λ n. drop from (take n bytes)) (let sum : from + (to - from) ≡ to = omega arith in sum)

-- two parts in a row are one
pub two : (bytes : List ℕ) (from place : ℕ) → from ≤ place → place ≤ length bytes →
    drop from (take place bytes) ++ drop place bytes ≡ drop from bytes
two bytes from place ordered within =
    sym (drop-append-le from (take place bytes) (drop place bytes)
    (let k : length (take place bytes) ≡ place = length-take-le place bytes within in omega arith))
    ∙ ap (λ t. drop from t) (take-append-drop place bytes)

-- an empty head is no text
pub empty : (heads : List ℕ) (head : Head) → head.from ≡ head.to → text_of heads head ≡ []
empty heads head e = ap (λ n. drop n (take head.to heads)) e ∙ nothing head.to heads

pub merged-heads :
    (bytes heads more : List ℕ) (limit from : ℕ) (waiting : List Head) (all : List ℕ) →
    Fit all heads limit from waiting →
    merged bytes heads from waiting ≡ merged bytes (heads ++ more) from waiting
merged-heads bytes heads more limit from [] all fit = refl
merged-heads bytes heads more limit from (head ∷ waiting) all fit =
    let later = merged-heads bytes heads more limit head.place waiting all fit.4 in
    grind (arith, take-append-le, later)

pub merged-all : (bytes heads : List ℕ) (some limit from : ℕ) (waiting : List Head) (all : List ℕ) →
    Fit all (take some heads) limit from waiting →
    merged bytes (take some heads) from waiting ≡ merged bytes heads from waiting
merged-all bytes heads some limit from waiting all fit =
    merged-heads bytes (take some heads) (drop some heads) limit from waiting all fit
    ∙ ap (λ hs. merged bytes hs from waiting) (take-append-drop some heads)

-- ---- the text

-- from an earlier place on
pub skip : (bytes heads : List ℕ) (from place : ℕ) (waiting : List Head) → from ≤ place →
    Fit bytes heads (length bytes) place waiting →
    drop from (take place bytes) ++ merged bytes heads place waiting
    ≡ merged bytes heads from waiting
skip bytes heads from place [] ordered fit = two bytes from place ordered fit.0
skip bytes heads from place (head ∷ waiting) ordered fit =
    sym (append_assoc (drop from (take place bytes)) (drop place (take head.place bytes)) rest)
    ∙ ap (λ t. t ++ rest)
    (ap (λ t. drop from t ++ drop place (take head.place bytes))
    (sym (take-take place head.place bytes fit.0)) ∙ two (take head.place bytes) from place ordered
    (let k : length (take head.place bytes) ≡ head.place = length-take-le head.place bytes
    (fit-bound bytes heads (length bytes) head.place waiting fit.4) in
    let a : place ≤ head.place = fit.0 in omega arith))
  where
    rest : List ℕ
    rest = text_of heads head ++ merged bytes heads head.place waiting

-- bytes are added
pub merged-append : (bytes more heads : List ℕ) (from : ℕ) (waiting : List Head) →
    Fit bytes heads (length bytes) from waiting →
    merged (bytes ++ more) heads from waiting ≡ merged bytes heads from waiting ++ more
merged-append bytes more heads from [] fit = drop-append-le from bytes more fit.0
merged-append bytes more heads from (head ∷ waiting) fit =
    let later = merged-append bytes more heads head.place waiting fit.4 in
    grind (arith, take-append-le, fit-bound, append_assoc, later)

-- two lists of heads in sequence, the first of which are before an offset
pub merged-split : (bytes heads : List ℕ) (from start : ℕ) (xs ys : List Head) →
    start ≤ length bytes →
    Fit bytes heads start from xs → Fit bytes heads (length bytes) start ys →
    merged bytes heads from (xs ++ ys)
    ≡ merged (take start bytes) heads from xs ++ merged bytes heads start ys
merged-split bytes heads from start [] ys within before after =
    sym (skip bytes heads from start ys before.0 after)
merged-split bytes heads from start (head ∷ xs) ys within before after =
    let later = merged-split bytes heads head.place start xs ys within before.4 after in
    grind (arith, take-take, fit-bound, append_assoc, later)
  where
    inner : List ℕ
    inner = merged (take start bytes) heads head.place xs

    rest : List ℕ
    rest = merged bytes heads start ys

pub fit-split : (bytes heads : List ℕ) (limit from start : ℕ) (xs ys : List Head) →
    Fit bytes heads start from xs → Fit bytes heads limit start ys →
    Fit bytes heads limit from (xs ++ ys)
fit-split bytes heads limit from start [] ys before after =
    fit-from bytes heads limit from start ys before.0 before.1 after
fit-split bytes heads limit from start (head ∷ xs) ys before after =
    let later = fit-split bytes heads limit head.place start xs ys before.4 after in
    grind (arith, fit-bound, later)
  where
    later : (place : ℕ) (P : Type 0) → start ≤ limit → (P ⊎ (place < start)) → (P ⊎ (place < limit))
    later place P within (inl e) = inl e
    later place P within (inr before) = inr (omega arith)

-- a text with no bytes is empty, since no head but an empty one is at its end
pub merged-none : (bytes heads : List ℕ) (from : ℕ) (waiting : List Head) → length bytes ≡ from →
    Fit bytes heads (length bytes) from waiting → merged bytes heads from waiting ≡ []
merged-none bytes heads from [] e fit = drop_all from bytes (omega arith)
merged-none bytes heads from (head ∷ waiting) e fit =
    ap (λ t. t ++ (text_of heads head ++ merged bytes heads head.place waiting))
    (ap (λ n. drop from (take n bytes)) at ∙ nothing from bytes)
    ∙ ap (λ t. t ++ merged bytes heads head.place waiting) (at_end fit.3)
    ∙ merged-none bytes heads head.place waiting (e ∙ sym at) fit.4
  where
    at : head.place ≡ from
    at = (let a : from ≤ head.place = fit.0 in
        let b : head.place ≤ length bytes =
        fit-bound bytes heads (length bytes) head.place waiting fit.4 in
        omega arith)

    at_end : ((head.from ≡ head.to) ⊎ (head.place < length bytes)) → text_of heads head ≡ []
    at_end (inl same) = empty heads head same
    at_end (inr before) = absurd (let a : head.place ≡ from = at in omega arith)

-- ---- an empty head before others
pub merged-open : (bytes heads : List ℕ) (from : ℕ) (waiting : List Head) →
    Fit bytes heads (length bytes) from waiting →
    merged bytes heads from (without_open waiting) ≡ merged bytes heads from waiting
merged-open bytes heads from waiting fit = grind (arith, empty, eqb-true, skip)

pub fit-open : (bytes heads : List ℕ) (limit from : ℕ) (waiting : List Head) →
    Fit bytes heads limit from waiting → Fit bytes heads limit from (without_open waiting)
fit-open bytes heads limit from waiting fit = grind (arith, fit-from)

-- where none waits there is none but an empty one
pub none_waits : (waiting : List Head) → waits waiting ≡ false → without_open waiting ≡ []
none_waits waiting h = grind arith

-- a head takes the place that was kept for it
pub open-set : (waiting : List Head) (first : ℕ) (head : Head) →
    is_open (drop first waiting) ≡ true →
    set waiting first head ≡ take first waiting ++ head ∷ without_open (drop first waiting)
open-set [] zero head h = absurd (true≢false (sym h))
open-set [] (suc n) head h = absurd (true≢false (sym h))
open-set (other ∷ waiting) zero head h = grind arith
open-set (other ∷ waiting) (suc n) head h =
    ap (λ (ws : List Head). other ∷ ws) (open-set waiting n head h)
