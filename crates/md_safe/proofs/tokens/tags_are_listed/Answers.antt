-- By the tables.
use Rattle.md_safe.proofs.TokenTests.{all_listed}
use Rattle.md_safe.proofs.tokens.tags_are_listed.Goals as goal

pub returns : goal.returns
returns c = all_listed
