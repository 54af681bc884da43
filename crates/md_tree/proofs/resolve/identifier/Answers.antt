-- This search refuses a mutant in a second; the default one, with no answer given, takes ten.
use Rattle.std.proofs.Common.{rules}
use Rattle.md_tree.proofs.resolve.identifier.Goals as goal

pub returns-in-None : goal.returns-in-None
returns-in-None c = search rules

pub returns-in_ok-normalize_identifier-in-Some : goal.returns-in_ok-normalize_identifier-in-Some
returns-in_ok-normalize_identifier-in-Some c = search rules
