-- What an answer says of a script's text, and of its error as a failure, clause by clause.
-- By itself the search doesn't go through the statuses of an answer: `AnswerLemmas` does.
use Rattle.std.proofs.Common.{subst, sym, ap, ◌∙◌}
use Rattle.md_script.specs.Run.{IsTextOf}
use Rattle.md_abi.specs.Failures.{answer_of}
use Rattle.md_abi.proofs.AnswerLemmas.{handed_over, text_status, text_of_run, text_says_of_script}
use Rattle.md_abi.proofs.AnswerLemmas.{failure_hands_over, failure_of_script}
use Rattle.md_abi.proofs.AnswerLemmas.{failure_says_of_script}
use Rattle.md_ffi.proofs.export.bivdrazo_run.Goals as goal

pub returns-in-Ok-clause-text : goal.returns-in-Ok-clause-text
returns-in-Ok-clause-text c =
    handed_over (IsTextOf c.args.script.now) c.as_str.result.now
    c.args.buffer.now _ c.hand_over.result
    (subst (IsTextOf c.args.script.now) (sym c.as_str.ensures.value) c.in-Ok.ensures.text)
    c.hand_over.ensures

pub returns-in-Ok-clause-refused : goal.returns-in-Ok-clause-refused
returns-in-Ok-clause-refused c =
    (text_says_of_script c.args.script.now c.hand_over.result
    (text_status _ _ _ c.hand_over.result c.hand_over.ensures)).refused

pub returns-in-Ok-clause-unreadable : goal.returns-in-Ok-clause-unreadable
returns-in-Ok-clause-unreadable c =
    (text_says_of_script c.args.script.now c.hand_over.result
    (text_status _ _ _ c.hand_over.result c.hand_over.ensures)).unreadable

pub returns-in-Ok-clause-no_line : goal.returns-in-Ok-clause-no_line
returns-in-Ok-clause-no_line c =
    (text_says_of_script c.args.script.now c.hand_over.result
    (text_status _ _ _ c.hand_over.result c.hand_over.ensures)).no_line

pub returns-in-Ok-clause-fields : goal.returns-in-Ok-clause-fields
returns-in-Ok-clause-fields c = text_of_run _ _ _ c.hand_over.result c.hand_over.ensures

pub returns-in-Err-clause-text : goal.returns-in-Err-clause-text
returns-in-Err-clause-text c =
    failure_hands_over (IsTextOf c.args.script.now) c.args.buffer.now _
    c.answer_to.result c.answer_to.ensures

pub returns-in-Err-clause-refused : goal.returns-in-Err-clause-refused
returns-in-Err-clause-refused c =
    (failure_says_of_script c.args.script.now c.in-Err.error c.answer_to.result
    c.in-Err.ensures.err (c.answer_to.ensures ∙ ap answer_of c.from.ensures)).refused

pub returns-in-Err-clause-unreadable : goal.returns-in-Err-clause-unreadable
returns-in-Err-clause-unreadable c =
    (failure_says_of_script c.args.script.now c.in-Err.error c.answer_to.result
    c.in-Err.ensures.err (c.answer_to.ensures ∙ ap answer_of c.from.ensures)).unreadable

pub returns-in-Err-clause-no_line : goal.returns-in-Err-clause-no_line
returns-in-Err-clause-no_line c =
    (failure_says_of_script c.args.script.now c.in-Err.error c.answer_to.result
    c.in-Err.ensures.err (c.answer_to.ensures ∙ ap answer_of c.from.ensures)).no_line

pub returns-in-Err-clause-fields : goal.returns-in-Err-clause-fields
returns-in-Err-clause-fields c =
    failure_of_script c.args.script.now c.in-Err.error c.answer_to.result
    (c.answer_to.ensures ∙ ap answer_of c.from.ensures)
