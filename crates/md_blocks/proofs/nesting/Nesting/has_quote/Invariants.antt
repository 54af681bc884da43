-- No quote is among the containers that were read.
use Rattle.std.proofs.Common.{◌≡◌, drop}
use Rattle.std.specs.List.{list_any}
use Rattle.md_blocks.specs.Stack.{is_quote}
use Rattle.md_blocks.proofs.nesting.Nesting.has_quote.Given as goal

abbrev pub invariant-loop-open : goal.invariant-loop-open
invariant-loop-open l =
    list_any is_quote (drop l.open-index l.self.stack.items) ≡ list_any is_quote l.self.stack.items
