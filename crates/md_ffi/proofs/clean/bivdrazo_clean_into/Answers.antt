-- What an answer says of a clean text, and of a failure.
use Rattle.std.proofs.Common.{subst, sym}
use Rattle.md_abi.proofs.AnswerLemmas.{handed_over}
use Rattle.md_clean_abi.specs.Text.{IsCleanText}
use Rattle.md_markdown_abi.proofs.AnswerLemmas.{markdown_hands_over}
use Rattle.md_ffi.proofs.clean.bivdrazo_clean_into.Goals as goal

pub returns-in-Ok : goal.returns-in-Ok
returns-in-Ok c =
    let claim = IsCleanText c.args.options.now in
    record {
      text = handed_over claim c.as_str.result.now c.args.buffer.now _ c.hand_over.result
          (subst claim (sym c.as_str.ensures.value) c.in-Ok.ensures.ok) c.hand_over.ensures;
    }

pub returns-in-Err : goal.returns-in-Err
returns-in-Err c = record {
  text = markdown_hands_over (λ _. IsCleanText c.args.options.now) c.args.buffer.now
      c.in-Err.failure c.answer_to_markdown.result c.answer_to_markdown.ensures;
}
