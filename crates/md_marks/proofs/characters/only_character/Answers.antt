-- A text of one character is UTF-8, and its first character is that one.
use Rattle.std.proofs.Common.{arith}
use Rattle.std.proofs.lemmas.Str.{IsUtf8-encode}
use Rattle.std.proofs.lemmas.Grind.{common_steps}
use Rattle.md_marks.proofs.CharacterLemmas.{next-is}
use Rattle.md_marks.proofs.characters.only_character.Goals as goal

pub returns-in_err-ok : goal.returns-in_err-ok
returns-in_err-ok c = λ code scalar same.
    grind (arith, common_steps, IsUtf8-encode code scalar, same)

pub returns : goal.returns
returns c = λ code scalar same. next-is _ c.next.result c.chars.result.rest.now
    c.next.new.self.rest.now code scalar
    (grind (
      arith,
      common_steps,
      c.chars.ensures.rest,
      c.in_ok-ok.ensures.value,
      c.in_ok-ok.was,
      c.from_utf8.ensures.cases,
      same,
    )) c.next.ensures.steps.0
