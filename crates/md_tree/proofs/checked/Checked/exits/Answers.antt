-- This search refuses a mutant in a second; the default one, with no answer given, takes ten.
use Rattle.std.proofs.Common.{rules}
use Rattle.md_tree.proofs.checked.Checked.exits.Goals as goal

pub returns : goal.returns
returns c = search rules
