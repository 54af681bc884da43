-- Where the spine would begin, it may end exactly where its state there is complete.
use Rattle.std.proofs.lemmas.Grind.{common_steps}
use Rattle.std.proofs.Common.{arith}
use Rattle.md_pattern.proofs.spine_state.SpineState.begins_complete.Goals as goal

pub returns : goal.returns
returns c = grind (arith, common_steps)
