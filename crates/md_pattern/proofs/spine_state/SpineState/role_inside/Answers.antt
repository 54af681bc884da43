-- The role of the place is that of the spine's state, whatever its last symbol is.
use Rattle.std.proofs.Common.{ap, ◌∙◌}
use Rattle.md_pattern.specs.Shape.{role_for}
use Rattle.md_pattern.proofs.spine_state.SpineState.role_inside.Goals as goal

pub returns-then-goes_by_place : goal.returns-then-goes_by_place
returns-then-goes_by_place c =
    c.role_for.ensures ∙ ap (λ r. role_for r c.args.before c.args.usual) c.role.ensures
