-- The letter encodes the place after the symbol, which becomes the last symbol; and a letter that
-- encodes a row fits a byte.
use Rattle.std.proofs.Common.{arith, rules}
use Rattle.md_pattern.proofs.PlaceLemmas.{encodes_row-some}
use Rattle.md_pattern.proofs.spine_state.SpineState.after.Goals as goal

pub overflow_add-result : goal.overflow_add-result
overflow_add-result c = grind (arith, encodes_row-some)

pub returns : goal.returns
returns c = search rules
