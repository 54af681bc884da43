use Rattle.std.proofs.Common.{arith}
use Rattle.std.proofs.lemmas.Grind.{common_steps}
use Rattle.md_marks.proofs.CharacterLemmas.{length-by}
use Rattle.md_marks.proofs.characters.length_by.Goals as goal

pub returns-in-0-to-223 : goal.returns-in-0-to-223
returns-in-0-to-223 c = λ code scalar large same.
    grind (arith, common_steps, length-by code large, same)

pub returns-in-224-to-239 : goal.returns-in-224-to-239
returns-in-224-to-239 c = λ code scalar large same.
    grind (arith, common_steps, length-by code large, same)

pub returns-in_default : goal.returns-in_default
returns-in_default c = λ code scalar large same.
    grind (arith, common_steps, length-by code large, same)
