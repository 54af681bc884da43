-- A fact about all letters of a role's pattern holds for what matches it, and for the spine of each
-- node with that role. So a test on symbols is computed over the patterns, and applies to every
-- spine.
use Rattle.md_content.proofs.Tails.{each-tail}
use Rattle.std.proofs.Common.{arith, ◌≡◌, ℕ, zero, suc, Bool, true, List, [], ◌∷◌, ◌++◌, refl, sym}
use Rattle.std.proofs.Common.{subst}
use Rattle.std.specs.Prelude.{replicate}
use Rattle.std.specs.List.{list_all}
use Rattle.std.proofs.lemmas.Bool.{and_parts, and_from}
use Rattle.std.proofs.lemmas.List.Folds.{list_all-append}
use Rattle.md_pattern.specs.declared.kinds.Symbol.{Symbol}
use Rattle.md_pattern.specs.declared.kinds.Symbol.TheVariants as symbol_variants
use symbol_variants.{ReferenceNumeric, ReferenceHexadecimal, ReferenceValue, SetextUnderline}
use symbol_variants.{LineEnding}
use Rattle.md_pattern.specs.declared.kinds.Item.{Item}
use Rattle.md_pattern.specs.declared.kinds.Class.{Class}
use Rattle.md_pattern.specs.Pattern.{Fits, members, class_of, takes}
use Rattle.md_pattern.specs.Spine.{IsTail, IsGrouped}
use Rattle.md_content.proofs.Admitted.{taken}

-- what holds of all members of a class holds of those that it takes
pub own-all : (test : Symbol → Bool) (class : Class) (own : List Symbol) →
    list_all (takes class) own ≡ true →
    list_all test (members class) ≡ true → list_all test own ≡ true
own-all test class [] took h = refl
own-all test class (s ∷ own) took h =
    grind (arith, and_parts, and_from, taken, own-all test class own)

-- all letters of some items pass a test
abbrev pub letters : (Symbol → Bool) → List Item → Bool
letters test items = list_all (λ item. list_all test (members (class_of item))) items

-- what holds of all letters of a pattern holds of what fits it
pub fits-all : (test : Symbol → Bool) (items : List Item) (firsts : List Symbol) →
    Fits items firsts →
    letters test items ≡ true → list_all test firsts ≡ true
fits-all test [] firsts fit h = subst (λ s. list_all test s ≡ true) (sym fit) refl
fits-all test (item ∷ items) firsts fit h =
    grind (arith, and_parts, list_all-append, and_from, own-all, fits-all test items)

-- what a group has after its first symbol
abbrev pub followers : List Symbol
followers =
    ReferenceNumeric ∷ ReferenceHexadecimal ∷ ReferenceValue ∷ LineEnding ∷ SetextUnderline ∷ []

endings-all : (test : Symbol → Bool) (endings : ℕ) → list_all test followers ≡ true →
    list_all test (replicate endings LineEnding ++ SetextUnderline ∷ []) ≡ true
endings-all test zero h = grind arith
endings-all test (suc endings) h = grind (arith, endings-all test endings h)

-- and for its content
pub tail-all : (test : Symbol → Bool) (first : Symbol) (tail : List Symbol) →
    list_all test followers ≡ true →
    IsTail first tail → list_all test tail ≡ true
tail-all test first tail h is = grind (arith, each-tail, endings-all)

-- what holds of all first symbols, and with them of what follows in their groups,
-- holds of the spine
pub grouped-all : (test : Symbol → Bool) →
    ((first : Symbol) (tail : List Symbol) → test first ≡ true →
    IsTail first tail → list_all test tail ≡ true) →
    (firsts spine : List Symbol) → IsGrouped firsts spine → list_all test firsts ≡ true →
    list_all test spine ≡ true
grouped-all test tails [] spine g h = subst (λ s. list_all test s ≡ true) (sym g) refl
grouped-all test tails (first ∷ firsts) spine g h =
    grind (arith, list_all-append, grouped-all test tails firsts)

-- and what holds for anything that may follow in a group
pub followed-all : (test : Symbol → Bool) → list_all test followers ≡ true →
    (firsts spine : List Symbol) →
    IsGrouped firsts spine → list_all test firsts ≡ true → list_all test spine ≡ true
followed-all test after = grouped-all test (λ first tail h is. tail-all test first tail after is)
