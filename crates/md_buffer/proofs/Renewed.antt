-- The same texts before the innermost one, and another text in its place.
use Rattle.std.proofs.Common.{arith, ◌≡◌, ℕ, ◌≤◌, List, [], ◌∷◌, length, take, drop, refl, ap, sym}
use Rattle.std.proofs.Common.{◌∙◌}
use Rattle.std.proofs.lemmas.List.{take-take}
use Rattle.md_buffer.specs.declared.heads.Head.{Head}
use Rattle.md_buffer.specs.declared.output.Start.{Start}
use Rattle.md_buffer.specs.Waiting.{merged, before, texts_of, Fit, AllFit, IsSound}
use Rattle.md_buffer.proofs.HeadsFit.{sooner, fit-bound, fit-same}

-- ---- the texts before a start
earlier : (vs ws : List Head) (first outer : ℕ) → outer ≤ first → take first vs ≡ take first ws →
    take outer vs ≡ take outer ws
earlier vs ws first outer within same =
    sym (take-take outer first vs within) ∙ ap (λ (t : List Head). take outer t) same
    ∙ take-take outer first ws within

-- the same bytes and heads before it
before-same : (xs ys hs ks : List ℕ) (vs ws : List Head) (start : Start) (outers : List Start) →
    AllFit xs hs vs start outers → take start.place xs ≡ take start.place ys →
    take start.heads hs ≡ take start.heads ks → take start.first vs ≡ take start.first ws →
    before xs hs vs start outers ≡ before ys ks ws start outers
before-same xs ys hs ks vs ws start [] fit bytes heads waiting = refl
before-same xs ys hs ks vs ws start (outer ∷ others) fit bytes heads waiting =
    let later = before-same xs ys hs ks vs ws outer others fit.4 in
    grind (arith, sooner, fit-bound, earlier, later)

all_fit-same : (xs ys hs ks : List ℕ) (vs ws : List Head) (start : Start) (outers : List Start) →
    take start.place xs ≡ take start.place ys → take start.heads hs ≡ take start.heads ks →
    take start.first vs ≡ take start.first ws → AllFit xs hs vs start outers →
    AllFit ys ks ws start outers
all_fit-same xs ys hs ks vs ws start [] bytes heads waiting fit = tt
all_fit-same xs ys hs ks vs ws start (outer ∷ others) bytes heads waiting fit =
    let later = all_fit-same xs ys hs ks vs ws outer others in
    grind (arith, sooner, fit-same, fit-bound, earlier, later)

-- ---- all texts

-- the same before the innermost, and another text
pub renewed : (xs ys hs ks : List ℕ) (vs ws : List Head) (start : Start) (outers : List Start) →
    IsSound xs hs vs start outers → take start.place xs ≡ take start.place ys →
    take start.heads hs ≡ take start.heads ks → take start.first vs ≡ take start.first ws →
    start.heads ≤ length ks → start.first ≤ length ws →
    Fit ys ks (length ys) start.place (drop start.first ws) → IsSound ys ks ws start outers
renewed xs ys hs ks vs ws start outers sound bytes heads waiting many first text =
    grind (arith, all_fit-same)

pub renewed_texts : (xs ys hs ks : List ℕ) (vs ws : List Head) (start : Start)
    (outers : List Start) (text : List ℕ) →
    IsSound xs hs vs start outers → take start.place xs ≡ take start.place ys →
    take start.heads hs ≡ take start.heads ks → take start.first vs ≡ take start.first ws →
    merged ys ks start.place (drop start.first ws) ≡ text →
    texts_of ys ks ws start outers ≡ record { text = text; below = before xs hs vs start outers }
renewed_texts xs ys hs ks vs ws start outers text sound bytes heads waiting is =
    grind (arith, before-same)

-- with the same texts of heads
pub changed : (xs ys heads : List ℕ) (vs ws : List Head) (start : Start) (outers : List Start) →
    IsSound xs heads vs start outers → take start.place xs ≡ take start.place ys →
    take start.first vs ≡ take start.first ws → start.first ≤ length ws →
    Fit ys heads (length ys) start.place (drop start.first ws) → IsSound ys heads ws start outers
changed xs ys heads vs ws start outers sound bytes waiting first text = grind (arith, renewed)

pub changed_texts : (xs ys heads : List ℕ) (vs ws : List Head) (start : Start)
    (outers : List Start) (text : List ℕ) →
    IsSound xs heads vs start outers → take start.place xs ≡ take start.place ys →
    take start.first vs ≡ take start.first ws →
    merged ys heads start.place (drop start.first ws) ≡ text →
    texts_of ys heads ws start outers
    ≡ record { text = text; below = before xs heads vs start outers }
changed_texts xs ys heads vs ws start outers text sound bytes waiting is =
    renewed_texts xs ys heads heads vs ws start outers text sound bytes refl waiting is
