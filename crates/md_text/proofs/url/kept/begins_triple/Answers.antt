-- The one search that proves it: it refuses a mutant in a second; the default search, with no
-- answer given, takes ten.
use Rattle.std.proofs.Common.{arith}
use Rattle.std.proofs.lemmas.Grind.{common_steps}
use Rattle.md_text.proofs.url.kept.begins_triple.Goals as goal

pub returns-in-37 : goal.returns-in-37
returns-in-37 c = grind (arith, common_steps)
