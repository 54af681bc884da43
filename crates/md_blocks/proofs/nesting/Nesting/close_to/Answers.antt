-- A block that is closed writes its end; in the end none is left.
use Rattle.std.proofs.Common.{ap, sym, ◌∙◌, ◌≤◌, ◌++◌, ◌-◌, take, drop, length, arith}
use Rattle.std.proofs.lemmas.List.{append-nil, drop_all, take_all}
use Rattle.md_blocks.specs.Stack.{ends_of}
use Rattle.md_blocks.proofs.StackLemmas.{one_end, take_take}
use Rattle.md_blocks.proofs.nesting.Nesting.close_to.Goals as goal

pub loop-self-preserved : goal.loop-self-preserved
loop-self-preserved c =
    let s = c.loop-self.self in
    let depth = c.args.depth in
    let at = c.args.at in
    let n = length s.stack.items - 1 in
    let within : depth ≤ n = omega (arith, c.loop-self-test.true, c.len.ensures, s.stack.ok) in
    record {
      len = omega (arith, c.in_ok-exit.ensures.shrinks, c.loop-self.invariant.len);
      stack = ap (take depth) c.in_ok-exit.ensures.stack ∙ take_take depth n s.stack.items within
          ∙ c.loop-self.invariant.stack;
      leaves = c.exit.ensures.leaves ∙ c.loop-self.invariant.leaves;
      tape = ap (λ tape. tape ++ ends_of at (drop depth c.exit.new.self.stack.items))
          c.in_ok-exit.ensures.tape
          ∙ ap (λ stack. (s.tape.items ++ ends_of at (drop n s.stack.items)) ++ ends_of at (drop depth stack))
          c.in_ok-exit.ensures.stack
          ∙ one_end at depth n s.stack.items s.tape.items within ∙ c.loop-self.invariant.tape;
    }

pub returns-clause-stack : goal.returns-clause-stack
returns-clause-stack c =
    let s = c.loop-self.self in
    let all : length s.stack.items ≤ c.args.depth =
    omega (arith, c.loop-self-test.false, c.len.ensures, s.stack.ok) in
    sym (take_all c.args.depth s.stack.items all) ∙ c.loop-self.invariant.stack

pub returns-clause-tape : goal.returns-clause-tape
returns-clause-tape c =
    let s = c.loop-self.self in
    let all : length s.stack.items ≤ c.args.depth =
    omega (arith, c.loop-self-test.false, c.len.ensures, s.stack.ok) in
    sym (ap (λ left. s.tape.items ++ ends_of c.args.at left)
    (drop_all c.args.depth s.stack.items all) ∙ append-nil s.tape.items)
    ∙ c.loop-self.invariant.tape
