-- What an answer says of a text, and of a failure, clause by clause.
-- By itself the search doesn't go through the statuses of an answer: `AnswerLemmas` does.
use Rattle.std.proofs.Common.{subst, sym}
use Rattle.md_abi.specs.Rendered.{IsRendered}
use Rattle.md_abi.proofs.AnswerLemmas.{handed_over, text_status, text_of_compile, text_says}
use Rattle.md_abi.proofs.AnswerLemmas.{failure_hands_over, failure_of_compile, failure_says}
use Rattle.md_ffi.proofs.export.bivdrazo_compile.Goals as goal

pub returns-in-Ok-clause-text : goal.returns-in-Ok-clause-text
returns-in-Ok-clause-text c =
    handed_over (IsRendered c.args.events.now c.args.bytes.now c.args.options.now c.args.names.now)
    c.as_str.result.now c.args.buffer.now _ c.hand_over.result
    (subst (IsRendered c.args.events.now c.args.bytes.now c.args.options.now c.args.names.now)
    (sym c.as_str.ensures.value) c.in-Ok.ensures.ok) c.hand_over.ensures

pub returns-in-Ok-clause-refused : goal.returns-in-Ok-clause-refused
returns-in-Ok-clause-refused c =
    (text_says c.args.events.now c.args.bytes.now c.args.options.now c.args.names.now
    c.hand_over.result (text_status _ _ _ c.hand_over.result c.hand_over.ensures)).refused

pub returns-in-Ok-clause-no_event : goal.returns-in-Ok-clause-no_event
returns-in-Ok-clause-no_event c =
    (text_says c.args.events.now c.args.bytes.now c.args.options.now c.args.names.now
    c.hand_over.result (text_status _ _ _ c.hand_over.result c.hand_over.ensures)).no_event

pub returns-in-Ok-clause-no_name : goal.returns-in-Ok-clause-no_name
returns-in-Ok-clause-no_name c =
    (text_says c.args.events.now c.args.bytes.now c.args.options.now c.args.names.now
    c.hand_over.result (text_status _ _ _ c.hand_over.result c.hand_over.ensures)).no_name

pub returns-in-Ok-clause-no_option : goal.returns-in-Ok-clause-no_option
returns-in-Ok-clause-no_option c =
    (text_says c.args.events.now c.args.bytes.now c.args.options.now c.args.names.now
    c.hand_over.result (text_status _ _ _ c.hand_over.result c.hand_over.ensures)).no_option

pub returns-in-Ok-clause-fields : goal.returns-in-Ok-clause-fields
returns-in-Ok-clause-fields c = text_of_compile _ _ _ c.hand_over.result c.hand_over.ensures

pub returns-in-Err-clause-text : goal.returns-in-Err-clause-text
returns-in-Err-clause-text c =
    failure_hands_over (IsRendered c.args.events.now c.args.bytes.now c.args.options.now
    c.args.names.now) c.args.buffer.now c.in-Err.failure
    c.answer_to.result c.answer_to.ensures

pub returns-in-Err-clause-refused : goal.returns-in-Err-clause-refused
returns-in-Err-clause-refused c =
    (failure_says c.args.events.now c.args.bytes.now c.args.options.now c.args.names.now
    c.in-Err.failure c.answer_to.result c.in-Err.ensures.err c.answer_to.ensures).refused

pub returns-in-Err-clause-no_event : goal.returns-in-Err-clause-no_event
returns-in-Err-clause-no_event c =
    (failure_says c.args.events.now c.args.bytes.now c.args.options.now c.args.names.now
    c.in-Err.failure c.answer_to.result c.in-Err.ensures.err c.answer_to.ensures).no_event

pub returns-in-Err-clause-no_name : goal.returns-in-Err-clause-no_name
returns-in-Err-clause-no_name c =
    (failure_says c.args.events.now c.args.bytes.now c.args.options.now c.args.names.now
    c.in-Err.failure c.answer_to.result c.in-Err.ensures.err c.answer_to.ensures).no_name

pub returns-in-Err-clause-no_option : goal.returns-in-Err-clause-no_option
returns-in-Err-clause-no_option c =
    (failure_says c.args.events.now c.args.bytes.now c.args.options.now c.args.names.now
    c.in-Err.failure c.answer_to.result c.in-Err.ensures.err c.answer_to.ensures).no_option

pub returns-in-Err-clause-fields : goal.returns-in-Err-clause-fields
returns-in-Err-clause-fields c =
    failure_of_compile c.args.events.now c.args.bytes.now c.args.options.now c.args.names.now
    c.in-Err.failure c.answer_to.result c.in-Err.ensures.err c.answer_to.ensures
