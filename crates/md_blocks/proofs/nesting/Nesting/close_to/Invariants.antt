-- Each iteration closes a block; what is written, and the ends of the blocks that are left to close,
-- stay the same.
use Rattle.std.proofs.Common.{◌≡◌, ◌≤◌, ◌++◌, take, drop, vec_len}
use Rattle.md_blocks.specs.Stack.{ends_of}
use Rattle.md_blocks.proofs.nesting.Nesting.close_to.Given as goal

abbrev pub invariant-loop-self : goal.invariant-loop-self
invariant-loop-self l = record {
  len : vec_len l.self.stack ≤ vec_len l.initial.self.stack;
  stack : take l.depth l.self.stack.items ≡ take l.depth l.initial.self.stack.items;
  leaves : l.self.leaves ≡ l.initial.self.leaves;
  tape : l.self.tape.items ++ ends_of l.at (drop l.depth l.self.stack.items)
      ≡ l.initial.self.tape.items ++ ends_of l.at (drop l.depth l.initial.self.stack.items);
}

abbrev pub decreases-loop-self : goal.decreases-loop-self
decreases-loop-self l = vec_len l.self.stack
