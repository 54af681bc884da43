-- This search refuses a mutant in a second; the default one, with no answer given, takes ten.
use Rattle.std.proofs.Common.{rules}
use Rattle.md_tree.proofs.judge.broken.broken_text.Goals as goal

pub returns-in-Some : goal.returns-in-Some
returns-in-Some c = search rules
