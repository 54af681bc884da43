-- The table has each role's first row.
use Rattle.md_pattern.proofs.PlaceLemmas.{start-at}
use Rattle.md_pattern.proofs.spine_state.SpineState.start.Goals as goal

pub returns : goal.returns
returns c = start-at c.starts.result.now c.number_of_role.result c.args.role c.starts.ensures
    c.number_of_role.ensures.few c.number_of_role.ensures.role
