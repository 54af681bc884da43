-- The last container is the one that is changed.
use Rattle.std.proofs.Common.{arith, ◌≡◌, ◌-◌, length, vec_len}
use Rattle.md_blocks.proofs.StackLemmas.{with_child_is}
use Rattle.md_blocks.proofs.nesting.Nesting.note_child.Goals as goal

pub returns-in-Some-clause-stack : goal.returns-in-Some-clause-stack
returns-in-Some-clause-stack c =
    let x = c.in-Some.open.now in
    let stack = c.args.self.now.stack in
    let last : vec_len stack - 1 ≡ length stack.items - 1 = omega (arith, stack.ok) in
    with_child_is stack.items x x (vec_len stack - 1) last c.in-Some.ensures.value
