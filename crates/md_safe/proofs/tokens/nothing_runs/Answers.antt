-- By the tables.
use Rattle.md_safe.proofs.TokenTests.{all_still}
use Rattle.md_safe.proofs.tokens.nothing_runs.Goals as goal

pub returns : goal.returns
returns c = all_still
