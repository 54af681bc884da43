-- Which bytes a URL keeps, and how HTML escapes them: the base of the laws on URLs.
use Rattle.std.proofs.Common.{◌≡◌, ◌≢◌, ℕ, ◌<◌, ◌≤◌, true, false, eqb, List, [], ◌∷◌, arith, ne_eqb}
use Rattle.std.proofs.lemmas.Bool.{cases_lt, both_ways}
use Rattle.std.proofs.lemmas.Bool.Decides.{nat_tests}
use Rattle.md_text.specs.Encode.{encoded_byte}
use Rattle.md_text.specs.Url.{stays}
use Rattle.md_text.proofs.EncodeLemmas.{encoded_byte-plain}

-- a byte past ASCII doesn't stay
pub stays-high : (b : ℕ) (rest : List ℕ) → 128 ≤ b → stays b rest ≡ false
stays-high b rest h = grind (arith, nat_tests)

-- a byte that stays is ASCII
pub stays-ascii : (b : ℕ) (rest : List ℕ) → stays b rest ≡ true → b < 128
stays-ascii b rest s = grind (arith, cases_lt, both_ways, stays-high)

-- a byte that stays isn't one that doesn't
pub stays-not : (b n : ℕ) (rest : List ℕ) → stays n rest ≡ false →
    stays b rest ≡ true → eqb b n ≡ false
stays-not b n rest gone s = grind (arith, ne_eqb, both_ways)

-- a byte that stays, but for `&`, is the same in HTML
pub encoded_byte-stays : (b : ℕ) (rest : List ℕ) → stays b rest ≡ true → b ≢ 38 →
    encoded_byte true b ≡ b ∷ []
encoded_byte-stays b rest s ne = grind (arith, encoded_byte-plain, stays-not, ne_eqb)
