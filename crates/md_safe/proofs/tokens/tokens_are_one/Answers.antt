-- By the steps.
use Rattle.md_safe.proofs.OneRun.{one_run}
use Rattle.md_safe.proofs.tokens.tokens_are_one.Goals as goal

pub returns : goal.returns
returns c = one_run
