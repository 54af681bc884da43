-- The depth is that of the containers that were read.
use Rattle.std.proofs.Common.{◌≡◌, take}
use Rattle.md_blocks.specs.Stack.{quotes_depth}
use Rattle.md_blocks.proofs.nesting.Nesting.depth_of_quote.Given as goal

abbrev pub invariant-loop-index : goal.invariant-loop-index
invariant-loop-index l = l.depth ≡ quotes_depth (take l.index l.self.stack.items)
