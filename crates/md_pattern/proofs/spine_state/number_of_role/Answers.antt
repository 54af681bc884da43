-- One by one, which the search doesn't try.
use Rattle.md_pattern.proofs.PlaceLemmas.{role-numbered}
use Rattle.md_pattern.proofs.spine_state.number_of_role.Goals as goal

pub returns-clause-role : goal.returns-clause-role
returns-clause-role c = role-numbered c.args.role
