-- The one search that proves it: it refuses a mutant in a second; the default search, with no
-- answer given, takes ten.
use Rattle.std.proofs.Common.{arith}
use Rattle.std.proofs.lemmas.Grind.{common_steps}
use Rattle.md_text.proofs.url.writing.hex_digit.Goals as goal

pub returns-clause-digit : goal.returns-clause-digit
returns-clause-digit c = grind (arith, common_steps)
