-- The place that was kept for the head is the first from the index on.
-- By itself the search does no induction over the heads before it.
use Rattle.std.proofs.Common.{arith}
use Rattle.std.proofs.lemmas.List.{take_rest}
use Rattle.md_buffer.proofs.Merged.{open-set}
use Rattle.md_buffer.proofs.heads.wait_first.Goals as goal

pub returns-then-is_open-clause-items : goal.returns-then-is_open-clause-items
returns-then-is_open-clause-items c = grind (arith, open-set, take_rest)
