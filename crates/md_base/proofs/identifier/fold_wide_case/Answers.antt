-- The written text, followed by the result for the rest, is the folding of the text at each
-- character.
use Rattle.std.proofs.Common.{arith, ◌++◌, string_bytes, encode_utf8_all, chars, ap, ◌∙◌}
use Rattle.std.proofs.lemmas.List.{append-nil, nil_from_length}
use Rattle.std.proofs.lemmas.Str.{IsUtf8-past_char}
use Rattle.std.specs.Str.Iter.{chars_rest}
use Rattle.caseless.specs.Caseless.{default_case_fold}
use Rattle.md_base.proofs.FoldLemmas.{fold_step, fold_end}
use Rattle.md_base.proofs.identifier.fold_wide_case.Goals as goal

pub loop-character-preserved : goal.loop-character-preserved
loop-character-preserved c =
    let rest = chars_rest c.next.new.self in
    let old = chars_rest c.loop-character.character-iterator in
    let text = c.loop-character.invariant.utf8 in
    let step = c.in-Some.ensures.steps.0 in
    record {
      whole =
          ap (λ w. w ++ encode_utf8_all (default_case_fold (chars rest)))
          c.in_ok-push_folded.ensures
          ∙ fold_step (string_bytes c.loop-character.folded) rest old c.in-Some.character text step
          ∙ c.loop-character.invariant.whole;
      utf8 = IsUtf8-past_char old rest c.in-Some.character text step;
    }

pub returns : goal.returns
returns c = grind (arith, append-nil, nil_from_length, fold_end)
