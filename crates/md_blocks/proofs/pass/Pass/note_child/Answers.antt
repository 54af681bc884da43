-- The innermost container has a child.
use Rattle.md_blocks.proofs.StateLemmas.{child_over}
use Rattle.md_blocks.proofs.pass.Pass.note_child.Goals as goal

pub returns-clause-state : goal.returns-clause-state
returns-clause-state c =
    let p = c.args.self.now in
    child_over p p.nesting c.note_child.new.self c.note_child.ensures.tape
    c.note_child.ensures.stack c.note_child.ensures.leaves
