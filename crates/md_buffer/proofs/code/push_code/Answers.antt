-- The text of code is what is meant.
use Rattle.std.proofs.Common.{arith, rules}
use Rattle.std.proofs.lemmas.Result.{on_ok_weaker}
use Rattle.md_buffer.proofs.CodeText.{trimmed-same, escapes-same}
use Rattle.md_buffer.proofs.code.push_code.Goals as goal

pub returns-in_ok-unescaped : goal.returns-in_ok-unescaped
returns-in_ok-unescaped c = grind (arith, on_ok_weaker, trimmed-same, escapes-same)

pub returns-else-in_table : goal.returns-else-in_table
returns-else-in_table c = search rules
