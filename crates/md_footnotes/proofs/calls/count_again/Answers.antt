-- To write the count at a place one higher is to count one call more there, and no other entry
-- changes. By itself the search does no induction over the entries.
use Rattle.std.proofs.Common.{arith}
use Rattle.md_footnotes.proofs.Placing.{again-set}
use Rattle.md_footnotes.proofs.calls.count_again.Goals as goal

pub returns : goal.returns
returns c = grind (arith, again-set)
