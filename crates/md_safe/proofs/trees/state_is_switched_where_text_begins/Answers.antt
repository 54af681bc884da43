-- Mode by mode.
use Rattle.md_safe.proofs.Switching.{switched}
use Rattle.md_safe.proofs.trees.state_is_switched_where_text_begins.Goals as goal

pub returns : goal.returns
returns c = switched
