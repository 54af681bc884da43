-- The table, entry by entry.
use Rattle.std.proofs.Common.{refl}
use Rattle.md_pattern.specs.Places.{places, all_roles}
use Rattle.md_pattern.proofs.spine_state.table.starts.Goals as goal

pub returns : goal.returns
unfolding places all_roles
returns c = refl
