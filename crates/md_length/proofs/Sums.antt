-- Sums over identifiers that come once each.
use Rattle.std.proofs.Common.{◌≡◌, ℕ, ◌+◌, ◌*◌, ◌≤◌, false, List, [], ◌∷◌, length, refl, arith}
use Rattle.std.proofs.Common.{bytes_eq}
use Rattle.std.specs.Prelude.{if◌then◌else◌, find}
use Rattle.std.specs.Option.{option_map_or}
use Rattle.std.proofs.lemmas.Bool.{or_parts}
use Rattle.md_meaning.specs.Meaning.At.{Footnote}
use Rattle.md_meaning.specs.Meaning.Footnotes.{count_of}
use Rattle.md_meaning.proofs.Identifiers.{Apart, is_in, same, bytes_eq-sym}
use Rattle.md_length.specs.Uses.{sum_of}
use Rattle.md_length.proofs.Strings.{notes}

-- ---- sums over identifiers that come once each
-- of one of them, where it is one
abbrev of_one : List ℕ → ℕ → List (List ℕ) → ℕ
of_one wanted amount identifiers =
    sum_of (λ identifier. if bytes_eq wanted identifier then amount else 0) identifiers

none-there : (wanted : List ℕ) (amount : ℕ) (identifiers : List (List ℕ)) →
    is_in wanted identifiers ≡ false → of_one wanted amount identifiers ≡ 0
none-there wanted amount [] out = refl
none-there wanted amount (identifier ∷ identifiers) out =
    grind (arith, or_parts, bytes_eq-sym, none-there wanted amount identifiers)

once : (wanted : List ℕ) (amount : ℕ) (identifiers : List (List ℕ)) → Apart identifiers →
    of_one wanted amount identifiers ≤ amount
once wanted amount [] apart = omega arith
once wanted amount (identifier ∷ identifiers) apart =
    grind (
      arith,
      same wanted identifier,
      none-there wanted amount identifiers,
      once wanted amount identifiers apart.1,
    )

sum-add : (f g : List ℕ → ℕ) (identifiers : List (List ℕ)) →
    sum_of (λ identifier. f identifier + g identifier) identifiers
    ≡ sum_of f identifiers + sum_of g identifiers
sum-add f g [] = refl
sum-add f g (identifier ∷ identifiers) = omega (arith, sum-add f g identifiers)

sum-le : (f g : List ℕ → ℕ) (identifiers : List (List ℕ)) →
    ((identifier : List ℕ) → f identifier ≤ g identifier) →
    sum_of f identifiers ≤ sum_of g identifiers
sum-le f g [] each = omega arith
sum-le f g (identifier ∷ identifiers) each =
    omega (arith, each identifier, sum-le f g identifiers each)

no-sum : (f : List ℕ → ℕ) (identifiers : List (List ℕ)) →
    ((identifier : List ℕ) → f identifier ≤ 0) → sum_of f identifiers ≤ 0
no-sum f [] each = omega arith
no-sum f (identifier ∷ identifiers) each =
    omega (arith, each identifier, no-sum f identifiers each)

-- one thing more, whose amount counts for its own identifier
one-more : (own : List ℕ) (amount most : ℕ) (now before : List ℕ → ℕ)
    (identifiers : List (List ℕ)) → Apart identifiers →
    ((identifier : List ℕ) → now identifier
    ≤ (if bytes_eq own identifier then amount else 0) + before identifier) →
    sum_of before identifiers ≤ most → sum_of now identifiers ≤ amount + most
one-more own amount most now before identifiers apart each h =
    let own_amount = λ (identifier : List ℕ). if bytes_eq own identifier then amount else 0 in
    omega (
      arith,
      sum-le now (λ identifier. own_amount identifier + before identifier) identifiers each,
      sum-add own_amount before identifiers,
      once own amount identifiers apart,
    )

-- what is taken for each call of an identifier
pub counted : (f : List ℕ → ℕ) (identifiers calls : List (List ℕ)) → Apart identifiers →
    sum_of (λ identifier. count_of calls identifier * f identifier) identifiers ≤ sum_of f calls
counted f identifiers [] apart = no-sum _ identifiers (λ identifier. omega arith)
counted f identifiers (call ∷ calls) apart =
    one-more call (f call) (sum_of f calls) _ _ identifiers apart
    (λ identifier. grind (arith, same call identifier)) (counted f identifiers calls apart)

-- the texts of the first footnotes with these identifiers
abbrev pub first_text : List Footnote → List ℕ → ℕ
first_text footnotes identifier = length (option_map_or (λ (footnote : Footnote). footnote.text)
    (find (λ footnote. bytes_eq footnote.identifier identifier) footnotes) [])

pub texts-once : (footnotes : List Footnote) (identifiers : List (List ℕ)) → Apart identifiers →
    sum_of (first_text footnotes) identifiers ≤ notes footnotes
texts-once [] identifiers apart = no-sum _ identifiers (λ identifier. omega arith)
texts-once (footnote ∷ footnotes) identifiers apart =
    one-more footnote.identifier (length footnote.text) (notes footnotes)
    (first_text (footnote ∷ footnotes)) (first_text footnotes) identifiers apart
    (λ identifier. grind arith) (texts-once footnotes identifiers apart)
