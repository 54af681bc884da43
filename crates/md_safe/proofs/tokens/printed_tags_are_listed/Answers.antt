-- By induction over the reading.
use Rattle.md_safe.proofs.TokenTests.{all_printed}
use Rattle.md_safe.proofs.tokens.printed_tags_are_listed.Goals as goal

pub returns : goal.returns
returns c = all_printed
