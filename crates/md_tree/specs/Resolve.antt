-- Mentions without a definition.
use Rattle.std.specs.Prelude.{◌≡◌, ℕ, Some, List, slice_get}
use Rattle.md_base.specs.declared.event.Position.{Position}
use Rattle.md_tree.specs.declared.mention.Mention.{Mention}
use Rattle.md_tree.specs.declared.mention.Mention.TheVariants.{Reference, Call}
use Rattle.md_tree.specs.declared.mention.Mentioned.{Mentioned}
use Rattle.md_tree.specs.declared.rule.Rule.{Rule}
use Rattle.md_tree.specs.declared.rule.Rule.TheVariants as rule
use Rattle.md_tree.specs.declared.rule.CompileError.{CompileError}
use Rattle.md_tree.specs.declared.rule.CompileError.TheVariants as error
use Rattle.md_tree.specs.Mentions.{mentions_among, IsResolved}

-- the event at the index has this mention, and no definition of that kind has its identifier
abbrev pub RefersNowhere : List ℕ → List Mentioned → ℕ → Mention → Type 0
RefersNowhere bytes mentioned index mention =
    (at : ℕ) × (slice_get mentioned at ≡ Some (record { index = index; mention = mention }))
    × (IsResolved bytes (mentions_among mentioned) mention → ⊥)

-- the rule that an unresolved mention breaks
abbrev pub IsUnresolvedBy : List ℕ → List Mentioned → ℕ → Rule → Type 0
IsUnresolvedBy bytes mentioned index rule.Definition = (label : Position)
    × RefersNowhere bytes mentioned index (Reference label)
IsUnresolvedBy bytes mentioned index rule.Footnote = (label : Position)
    × RefersNowhere bytes mentioned index (Call label)
IsUnresolvedBy bytes mentioned index _ = ⊥

abbrev pub IsUnresolved : List ℕ → List Mentioned → CompileError → Type 0
IsUnresolved bytes mentioned error.Memory = Unit {0}
IsUnresolved bytes mentioned (error.Event index broken) =
    IsUnresolvedBy bytes mentioned index broken
