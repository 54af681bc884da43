-- The leaf is closed, then containers.
use Rattle.std.proofs.Common.{ap, ◌∙◌}
use Rattle.md_blocks.specs.States.{containers_closed}
use Rattle.md_blocks.proofs.StateLemmas.{closed_over}
use Rattle.md_blocks.proofs.pass.Pass.close_unmatched.Goals as goal

pub returns-clause-state : goal.returns-clause-state
returns-clause-state c =
    let q = c.close_leaf.new.self in
    let n = c.close_to.new.self in
    closed_over q q.nesting n c.args.depth q.at c.in_ok-close_to.ensures.tape
    c.in_ok-close_to.ensures.stack c.close_to.ensures.leaves
    ∙ ap (containers_closed c.args.depth) c.in_ok-close_leaf.ensures.state
