-- A list is closed, and the innermost container has a child.
use Rattle.std.proofs.Common.{ap, ◌∙◌}
use Rattle.md_blocks.specs.Stack.{without_list}
use Rattle.md_blocks.specs.States.{with_a_child}
use Rattle.md_blocks.proofs.StateLemmas.{closed_over}
use Rattle.md_blocks.proofs.pass.Pass.add_child.Goals as goal

pub returns-clause-state : goal.returns-clause-state
returns-clause-state c =
    let p = c.args.self.now in
    c.note_child.ensures.state
    ∙ ap with_a_child (closed_over p p.nesting c.close_list.new.self
    (without_list p.nesting.stack.items) _ c.in_ok-close_list.ensures.tape
    c.in_ok-close_list.ensures.stack c.close_list.ensures.leaves)
