-- By the tables.
use Rattle.md_safe.proofs.TokenTests.{left_alone}
use Rattle.md_safe.proofs.tokens.state_is_left_alone.Goals as goal

pub returns : goal.returns
returns c = left_alone
