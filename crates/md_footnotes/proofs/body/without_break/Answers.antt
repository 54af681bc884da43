-- A line ending less at the end makes no difference to the text without them; any other byte at the
-- end stays. By itself the search does no induction over the text.
use Rattle.md_footnotes.proofs.body.without_break.Goals as goal
use Rattle.std.proofs.Common.{arith}
use Rattle.md_footnotes.proofs.Endings.{unended-break, unended-other}

pub returns-then-is_break : goal.returns-then-is_break
returns-then-is_break c = grind (arith, unended-break)

pub returns-else-is_break : goal.returns-else-is_break
returns-else-is_break c = grind (arith, unended-other)
