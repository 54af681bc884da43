-- One by one, which the search doesn't try.
use Rattle.md_pattern.proofs.PlaceLemmas.{symbol-numbered}
use Rattle.md_pattern.proofs.spine_state.column.Goals as goal

pub returns-clause-symbol : goal.returns-clause-symbol
returns-clause-symbol c = symbol-numbered c.args.symbol
