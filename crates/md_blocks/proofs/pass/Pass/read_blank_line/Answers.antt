-- The blank line closes what it doesn't continue, and then waits.
use Rattle.std.proofs.Common.{ap, ◌∙◌, nat_lt}
use Rattle.md_blocks.specs.LeafBlocks.{blank_waits}
use Rattle.md_blocks.specs.Passes.{state_of}
use Rattle.md_blocks.proofs.pass.Pass.read_blank_line.Goals as goal

pub returns-clause-state : goal.returns-clause-state
returns-clause-state c =
    let place = c.args.position.now in
    let q = c.close_at_blank_line.new.self in
    c.note_blank_line.ensures.state
    ∙ ap (λ n. blank_waits (nat_lt 0 n) (state_of q))
    (c.text_line.ensures.ending ∙ c.close_at_blank_line.ensures.ending)
    ∙ ap (blank_waits (nat_lt 0 place.ending)) c.in_ok-close_at_blank_line.ensures.state
