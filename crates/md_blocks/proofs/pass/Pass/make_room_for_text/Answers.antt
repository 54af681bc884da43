-- A list is closed, and the innermost container has a child.
use Rattle.std.proofs.Common.{ap, ◌∙◌}
use Rattle.std.proofs.lemmas.Result.{on_ok_weaker}
use Rattle.md_blocks.specs.States.{list_closed, with_a_child}
use Rattle.md_blocks.proofs.pass.Pass.make_room_for_text.Goals as goal

pub returns-clause-state : goal.returns-clause-state
returns-clause-state c =
    on_ok_weaker c.add_child.result (λ added. added
    ∙ ap (λ s. with_a_child (list_closed s)) c.in_ok-close_unmatched.ensures.state)
    c.add_child.ensures.state
