-- The first footnote with each identifier is kept, and no other one is read.
use Rattle.std.proofs.Common.{arith, ◌≡◌, ℕ, true, false, List, [], ◌∷◌, ◌++◌, Option, refl, ap}
use Rattle.std.proofs.Common.{sym, ◌∙◌, append-nil, bytes_eq}
use Rattle.std.specs.Prelude.{if◌then◌else◌, find}
use Rattle.md_meaning.specs.Meaning.At.{Footnote, Context}
use Rattle.md_meaning.specs.Meaning.Footnotes.{section}
use Rattle.md_meaning.proofs.Identifiers.{same}
use Rattle.md_steps.specs.Steps.{noted}
use Rattle.md_steps.specs.Claim.{noted_all}

pub noted-append : (before xs ys : List Footnote) →
    noted_all before (xs ++ ys) ≡ noted_all (noted_all before xs) ys
noted-append before [] ys = refl
noted-append before (x ∷ xs) ys = noted-append (noted before x) xs ys

-- the first with an identifier
abbrev pub first_with : List Footnote → List ℕ → Option Footnote
first_with footnotes identifier =
    find (λ footnote. bytes_eq footnote.identifier identifier) footnotes

-- one with another identifier isn't found
found-beside : (xs : List Footnote) (y : Footnote) (ys : List Footnote) (q : List ℕ) →
    bytes_eq y.identifier q ≡ false →
    first_with (xs ++ ys) q ≡ first_with (xs ++ y ∷ ys) q
found-beside [] y ys q h = grind arith
found-beside (x ∷ xs) y ys q h = grind (arith, found-beside xs y ys q h)

-- the first with an identifier is the same one, before any others
found-noted : (xs : List Footnote) (y : Footnote) (ys : List Footnote) (q : List ℕ) →
    first_with (noted xs y ++ ys) q ≡ first_with (xs ++ y ∷ ys) q
found-noted [] y ys q = refl
found-noted (x ∷ xs) y ys q =
    elim (bytes_eq x.identifier y.identifier) as (λ b. bytes_eq x.identifier y.identifier ≡ b →
    first_with (x ∷ (if b then xs else noted xs y) ++ ys) q ≡ first_with (x ∷ xs ++ y ∷ ys) q) [
      | true ↦ λ k.
          let e = ap (λ i. bytes_eq i q) (same x.identifier y.identifier k) in
          grind (arith, found-beside xs y ys q)
      | false ↦ λ k. grind (arith, found-noted xs y ys q)
    ] refl

pub found-all : (xs ys : List Footnote) (q : List ℕ) →
    first_with (noted_all xs ys) q ≡ first_with (xs ++ ys) q
found-all xs [] q = ap (λ l. first_with l q) (sym (append-nil xs))
found-all xs (y ∷ ys) q = found-all (noted xs y) ys q ∙ found-noted xs y ys q

pub section-noted : (context : Context) (footnotes : List Footnote) →
    section context (noted_all [] footnotes) ≡ section context footnotes
section-noted context footnotes = grind (arith, found-all)
