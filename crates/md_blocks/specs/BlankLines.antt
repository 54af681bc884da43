-- When a blank line that waits is written (4.9, 5.3).
use Rattle.std.specs.Prelude.{Bool, List, [], ◌∷◌, ◌&&◌, ◌||◌, not, nat_lt, length, Option, Some, None}
use Rattle.std.specs.Prelude.{if◌then◌else◌}
use Rattle.md_blocks.specs.declared.nesting.Open.{Open}
use Rattle.md_blocks.specs.declared.pass.BlankLine.{BlankLine as Pending}
use Rattle.md_blocks.specs.declared.block.Block.{Block}
use Rattle.md_blocks.specs.declared.block.Block.TheVariants.{BlankLine}
use Rattle.md_blocks.specs.Stack.{innermost, is_item, is_list}

-- an item or a list
abbrev pub in_list : Open → Bool
in_list container = is_item container || is_list container

-- the blank line that waits, if as many containers are open as up to the quote or footnote around
-- it, and the innermost is an item or a list
abbrev pub blank_before : Option Pending → List Open → List Block
blank_before None containers = []
blank_before (Some blank) containers =
    if not (nat_lt (length containers) blank.depth) && innermost in_list containers
    then BlankLine blank.ending ∷ [] else []
