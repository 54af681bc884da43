-- The table, entry by entry.
use Rattle.std.proofs.Common.{refl}
use Rattle.md_pattern.specs.Places.{places}
use Rattle.md_pattern.proofs.spine_state.table.ends.Goals as goal

pub returns : goal.returns
unfolding places
returns c = refl
