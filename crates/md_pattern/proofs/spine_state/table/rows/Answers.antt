-- The table, entry by entry.
use Rattle.std.proofs.Common.{refl}
use Rattle.md_pattern.specs.Places.{places, symbols, decoded_from, encodes_rows_from}
use Rattle.md_pattern.proofs.spine_state.table.rows.Goals as goal

pub returns : goal.returns
unfolding places symbols decoded_from encodes_rows_from
returns c = record { decodes = refl; encodes = refl }
