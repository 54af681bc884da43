use Rattle.std.proofs.Common.{arith}
use Rattle.std.proofs.lemmas.Grind.{common_steps}
use Rattle.md_marks.proofs.CharacterLemmas.{length-last}
use Rattle.md_marks.proofs.characters.last_length.Goals as goal

pub returns-then-is_first : goal.returns-then-is_first
returns-then-is_first c = λ before code scalar large same.
    grind (arith, common_steps, length-last before code large, same, c.if-is_first.ensures)

pub returns-then-is_first-2 : goal.returns-then-is_first-2
returns-then-is_first-2 c = λ before code scalar large same.
    grind (
      arith,
      common_steps,
      length-last before code large,
      same,
      c.if-is_first.ensures,
      c.if-is_first-2.ensures,
    )

pub returns-else-is_first-2 : goal.returns-else-is_first-2
returns-else-is_first-2 c = λ before code scalar large same.
    grind (
      arith,
      common_steps,
      length-last before code large,
      same,
      c.if-is_first.ensures,
      c.if-is_first-2.ensures,
    )
