-- As many bytes as the first says are the first character.
use Rattle.std.proofs.Common.{◌∙◌, get_or, ap, sym, arith, encode_utf8}
use Rattle.std.proofs.lemmas.Grind.{common_steps}
use Rattle.std.proofs.lemmas.List.{length-append}
use Rattle.md_marks.proofs.CharacterLemmas.{first-byte, taken}
use Rattle.md_marks.proofs.characters.first_character.Goals as goal

pub returns-in_err-get : goal.returns-in_err-get
returns-in_err-get c = λ code after scalar large same first.
    let count = c.length_by.ensures code scalar large (sym (first-byte code after)
    ∙ ap (λ bs. get_or bs 0 0) (sym same) ∙ first) in
    let long = length-append (encode_utf8 code) after in
    grind (arith, common_steps, count, long, same, c.in_err-get.ensures.lookup)

pub returns : goal.returns
returns c = λ code after scalar large same first.
    let count = c.length_by.ensures code scalar large (sym (first-byte code after)
    ∙ ap (λ bs. get_or bs 0 0) (sym same) ∙ first) in
    c.only_character.ensures code scalar (grind (
      arith,
      common_steps,
      count,
      same,
      taken code after,
      c.in_ok-get.ensures.lookup,
    ))
