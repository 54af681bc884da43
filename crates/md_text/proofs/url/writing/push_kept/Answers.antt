-- The one search that proves it: it refuses a mutant in a second; the default search, with no
-- answer given, takes ten.
use Rattle.std.proofs.Common.{arith}
use Rattle.std.proofs.lemmas.Grind.{common_steps}
use Rattle.md_text.proofs.url.writing.push_kept.Goals as goal

pub returns-in-len2 : goal.returns-in-len2
returns-in-len2 c = grind (arith, common_steps)
