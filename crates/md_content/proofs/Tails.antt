-- What may follow the first symbol of a group: a claim about each tail, by its first symbol.
use Rattle.std.proofs.Common.{◌≡◌, ℕ, Bool, true, false, List, [], ◌∷◌, ◌++◌, replicate, arith}
use Rattle.md_pattern.specs.declared.kinds.Symbol.{Symbol}
use Rattle.md_pattern.specs.declared.kinds.Symbol.TheVariants as symbol_variants
use symbol_variants.{ReferenceMarker, ReferenceNumeric, ReferenceHexadecimal, ReferenceValue}
use symbol_variants.{SetextText, SetextUnderline, LineEnding}
use Rattle.md_pattern.specs.Spine.{IsTail}

-- a group of a symbol that begins none stands alone
abbrev pub is_lone : Symbol → Bool
is_lone ReferenceMarker = false
is_lone SetextText = false
is_lone _ = true

pub each-tail : (Holds : Symbol → List Symbol → Type 0) →
    Holds ReferenceMarker (ReferenceValue ∷ []) →
    Holds ReferenceMarker (ReferenceNumeric ∷ ReferenceValue ∷ []) →
    Holds ReferenceMarker (ReferenceNumeric ∷ ReferenceHexadecimal ∷ ReferenceValue ∷ []) →
    ((endings : ℕ) → Holds SetextText (replicate endings LineEnding ++ SetextUnderline ∷ [])) →
    ((first : Symbol) → is_lone first ≡ true → Holds first []) →
    (first : Symbol) (tail : List Symbol) → IsTail first tail → Holds first tail
each-tail Holds one two three heading lone first tail is = grind arith
