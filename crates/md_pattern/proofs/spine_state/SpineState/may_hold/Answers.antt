-- The last row alone is that of nodes without children.
use Rattle.md_pattern.proofs.PlaceLemmas.{place-holds}
use Rattle.md_pattern.proofs.spine_state.SpineState.may_hold.Goals as goal

pub returns : goal.returns
returns c = place-holds c.args.self.number
