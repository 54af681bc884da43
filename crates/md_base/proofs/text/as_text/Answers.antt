-- Bytes are a text exactly where they are UTF-8.
use Rattle.std.proofs.lemmas.Grind.{common_steps}
use Rattle.std.proofs.Common.{arith}
use Rattle.std.proofs.lemmas.Str.{IsUtf8-from_is_utf8, is_utf8-from_IsUtf8}
use Rattle.md_base.proofs.text.as_text.Goals as goal

pub returns-then-are_utf8 : goal.returns-then-are_utf8
returns-then-are_utf8 c = grind (arith, is_utf8-from_IsUtf8)

pub returns-else-are_utf8 : goal.returns-else-are_utf8
returns-else-are_utf8 c = grind (arith, common_steps, IsUtf8-from_is_utf8)
