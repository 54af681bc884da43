-- Nothing was entered yet.
use Rattle.md_blocks.proofs.TapeLemmas.{empty}
use Rattle.md_blocks.proofs.nesting.Nesting.new.Goals as goal

pub invariant_of-result-clause-nested : goal.invariant_of-result-clause-nested
invariant_of-result-clause-nested c = empty _ _ c.in_ok-tape.ensures.items c.new.ensures.len
