-- How deep the blocks of a tape nest.
use Rattle.std.specs.Prelude.{ℕ, ◌+◌, ◌-◌, ◌==◌, ◌&&◌, nat_lt, Bool, true, false, List, [], ◌∷◌}
use Rattle.std.specs.Prelude.{if◌then◌else◌}
use Rattle.md_blocks.specs.declared.block.Block.{Block}
use Rattle.md_blocks.specs.declared.block.Block.TheVariants.{EnterQuote, EnterList, EnterItem}
use Rattle.md_blocks.specs.declared.block.Block.TheVariants.{EnterFootnote, Exit}

-- whether an entry is the beginning of a container
abbrev pub enters : Block → Bool
enters (EnterQuote _) = true
enters (EnterList _ _) = true
enters (EnterItem _ _) = true
enters (EnterFootnote _) = true
enters _ = false

-- whether an entry is the end of a container
abbrev pub exits : Block → Bool
exits (Exit _ _ _) = true
exits _ = false

-- the blocks change one depth to another: none is entered at depth 96, and none is exited that
-- wasn't entered
unfoldable pub leads : ℕ → List Block → ℕ → Bool
leads from [] to = from == to
leads from (block ∷ blocks) to =
    if enters block then nat_lt from 96 && leads (from + 1) blocks to
    else (if exits block then nat_lt 0 from && leads (from - 1) blocks to
    else leads from blocks to)
