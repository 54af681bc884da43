-- Where the ids of a text and those that its headings get are distinct, so are those of the text
-- that is made.
use Rattle.std.proofs.Common.{◌≡◌, ℕ, suc, true, false, List, [], ◌∷◌, ◌++◌, length, refl, ap}
use Rattle.std.proofs.Common.{arith}
use Rattle.std.proofs.lemmas.Bool.{cond-true, cond-false}
use Rattle.md_text.specs.Ids.{are_distinct}
use Rattle.md_text.proofs.HtmlIds.{occurs, occurs-append}
use Rattle.md_safe.specs.Token.{Token}
use Rattle.md_page.specs.Added.{gets_id, shown, headings_after}
use Rattle.md_page.specs.GivenIds.{id_text, with_given_ids, ids_after, ids_given}
use Rattle.md_page.specs.Ids.{ids_among}
pub use Rattle.md_page.proofs.Adding.{other-way}
use Rattle.md_page.proofs.Distinct.{once, values_from, distinct-made}

pub after-picked : (ids : List (List ℕ)) (n : ℕ) (t : Token) (x : List Token) →
    gets_id t ≡ true →
    ids_after ids n (t ∷ x) ≡ shown (id_text ids n) ∷ ids_after ids (suc n) x
after-picked ids n t x h = cond-true (gets_id t) _ _ h

pub after-passed : (ids : List (List ℕ)) (n : ℕ) (t : Token) (x : List Token) →
    gets_id t ≡ false → ids_after ids n (t ∷ x) ≡ ids_after ids n x
after-passed ids n t x h = cond-false (gets_id t) _ _ h

abbrev given : List (List ℕ) → ℕ → List ℕ
given ids n = shown (id_text ids n)

given-values : (ids : List (List ℕ)) (n : ℕ) (x : List Token) →
    ids_after ids n x ≡ values_from (given ids) n (length (headings_after n x))
given-values ids n [] = refl
given-values ids n (t ∷ x) = grind (arith, given-values ids (suc n) x, given-values ids n x)

pub distinct-given : (ids : List (List ℕ)) (x : List Token) →
    are_distinct (ids_among x ++ ids_given ids x) ≡ true →
    are_distinct (ids_among (with_given_ids ids x)) ≡ true
distinct-given ids x h =
    distinct-made (given ids) x (λ w. omega (
      arith,
      once (ids_among x ++ ids_given ids x) h w,
      occurs-append w (ids_among x) (ids_given ids x),
      ap (occurs w) (given-values ids 0 x),
    ))
