-- Spines: the symbols that patterns match among a node's children, and the groups of neighbours on
-- a spine.
use Rattle.std.specs.Prelude.{◌≡◌, ◌⊎◌, ℕ, List, [], ◌∷◌, ◌++◌, replicate}
use Rattle.md_pattern.specs.declared.kinds.Symbol.{Symbol}
use Rattle.md_pattern.specs.declared.kinds.Symbol.TheVariants as symbol_variants
use symbol_variants.{ReferenceMarker, ReferenceNumeric, ReferenceHexadecimal, ReferenceValue}
use symbol_variants.{SetextText, SetextUnderline, LineEnding}
use Rattle.md_pattern.specs.declared.kinds.Role.{Role}
use Rattle.md_pattern.specs.declared.kinds.Standing.{Standing}
use Rattle.md_pattern.specs.declared.kinds.Standing.TheVariants.{Through, Solid}
use Rattle.md_base.specs.Tree.{Forest, Empty, Node}
use Rattle.md_pattern.specs.Standing.{standing_of}
use Rattle.md_pattern.specs.Pattern.{Fits, pattern_of}

-- the symbols of a node on the spine of its parent: its own symbol, or, if it is transparent, those
-- of its own spine
abbrev pub shown : Standing → List Symbol → List Symbol
shown Through inner = inner
shown (Solid symbol usual reading) inner = symbol ∷ []
shown _ inner = []

-- the symbols of the nodes that have only transparent ancestors here
abbrev pub spine : Forest → List Symbol
spine Empty = []
spine (Node name start end children rest) = shown (standing_of name) (spine children) ++ spine rest

-- the symbols after the first one of a group: a reference's marks and value, a setext heading's
-- underline
abbrev pub IsTail : Symbol → List Symbol → Type 0
IsTail ReferenceMarker tail =
    (tail ≡ ReferenceValue ∷ []) ⊎ ((tail ≡ ReferenceNumeric ∷ ReferenceValue ∷ [])
    ⊎ (tail ≡ ReferenceNumeric ∷ ReferenceHexadecimal ∷ ReferenceValue ∷ []))
IsTail SetextText tail =
    (endings : ℕ) × (tail ≡ replicate endings LineEnding ++ SetextUnderline ∷ [])
IsTail _ tail = tail ≡ []

-- the spine consists of these first symbols, each followed by the rest of its group
abbrev pub IsGrouped : List Symbol → List Symbol → Type 0
IsGrouped [] spine = spine ≡ []
IsGrouped (first ∷ firsts) spine =
    (tail others : List Symbol) × (spine ≡ first ∷ tail ++ others) × IsTail first tail
    × IsGrouped firsts others

-- a spine matches the pattern of a role; each of its groups counts as its first symbol
abbrev pub Matches : Role → List Symbol → Type 0
Matches role spine = (firsts : List Symbol) × IsGrouped firsts spine × Fits (pattern_of role) firsts

-- a group that has begun and isn't complete
abbrev pub IsBegunGroup : List Symbol → Type 0
IsBegunGroup group =
    (group ≡ ReferenceMarker ∷ []) ⊎ ((group ≡ ReferenceMarker ∷ ReferenceNumeric ∷ [])
    ⊎ ((group ≡ ReferenceMarker ∷ ReferenceNumeric ∷ ReferenceHexadecimal ∷ [])
    ⊎ ((endings : ℕ) × (group ≡ SetextText ∷ replicate endings LineEnding))))
