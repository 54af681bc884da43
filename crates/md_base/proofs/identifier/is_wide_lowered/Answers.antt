-- Each character that is passed is lowered as ASCII.
use Rattle.std.proofs.Common.{arith, refl}
use Rattle.std.proofs.lemmas.List.{nil_from_length}
use Rattle.std.proofs.lemmas.Str.{IsUtf8-past_char}
use Rattle.std.specs.Str.Iter.{chars_rest}
use Rattle.md_base.proofs.FoldLemmas.{lowered_step, lowered_end}
use Rattle.md_base.proofs.identifier.is_wide_lowered.Goals as goal

pub loop-character-preserved : goal.loop-character-preserved
loop-character-preserved c =
    let rest = chars_rest c.next.new.self in
    let old = chars_rest c.loop-character.character-iterator in
    let text = c.loop-character.invariant.utf8 in
    let step = c.in-Some.ensures.steps.0 in
    record {
      whole = λ later. c.loop-character.invariant.whole (lowered_step old rest c.in-Some.character
          text step (c.if-not-is_character_lowered.ensures refl) later);
      utf8 = IsUtf8-past_char old rest c.in-Some.character text step;
    }

pub returns : goal.returns
returns c holds = grind (arith, nil_from_length, lowered_end)
