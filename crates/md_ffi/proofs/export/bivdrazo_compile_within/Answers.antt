-- What an answer says of a text within limits, and of a failure, clause by clause.
-- By itself the search doesn't go through the statuses of an answer: `WithinAnswers` does.
use Rattle.std.proofs.Common.{subst, sym}
use Rattle.md_abi.specs.Within.{IsRenderedWithin}
use Rattle.md_abi.proofs.AnswerLemmas.{handed_over, text_status}
use Rattle.md_abi.proofs.WithinAnswers.{text_fields, text_says_within}
use Rattle.md_abi.proofs.WithinAnswers.{within_hands_over, within_fields, within_says}
use Rattle.md_ffi.proofs.export.bivdrazo_compile_within.Goals as goal

pub returns-in-Ok-clause-text : goal.returns-in-Ok-clause-text
returns-in-Ok-clause-text c =
    let a = c.args in
    let claim = IsRenderedWithin a.events.now a.bytes.now a.options.now a.names.now a.limits.now in
    handed_over claim c.as_str.result.now a.buffer.now _ c.hand_over.result
    (subst claim (sym c.as_str.ensures.value) c.in-Ok.ensures.ok) c.hand_over.ensures

pub returns-in-Ok-clause-refused : goal.returns-in-Ok-clause-refused
returns-in-Ok-clause-refused c =
    let a = c.args in
    let few = text_status _ _ _ c.hand_over.result c.hand_over.ensures in
    (text_says_within a.events.now a.bytes.now a.options.now a.names.now a.limits.now
    c.hand_over.result few c.in-Ok.ensures.bounded c.in-Ok.ensures.shallow).refused

pub returns-in-Ok-clause-no_event : goal.returns-in-Ok-clause-no_event
returns-in-Ok-clause-no_event c =
    let a = c.args in
    let few = text_status _ _ _ c.hand_over.result c.hand_over.ensures in
    (text_says_within a.events.now a.bytes.now a.options.now a.names.now a.limits.now
    c.hand_over.result few c.in-Ok.ensures.bounded c.in-Ok.ensures.shallow).no_event

pub returns-in-Ok-clause-no_name : goal.returns-in-Ok-clause-no_name
returns-in-Ok-clause-no_name c =
    let a = c.args in
    let few = text_status _ _ _ c.hand_over.result c.hand_over.ensures in
    (text_says_within a.events.now a.bytes.now a.options.now a.names.now a.limits.now
    c.hand_over.result few c.in-Ok.ensures.bounded c.in-Ok.ensures.shallow).no_name

pub returns-in-Ok-clause-no_option : goal.returns-in-Ok-clause-no_option
returns-in-Ok-clause-no_option c =
    let a = c.args in
    let few = text_status _ _ _ c.hand_over.result c.hand_over.ensures in
    (text_says_within a.events.now a.bytes.now a.options.now a.names.now a.limits.now
    c.hand_over.result few c.in-Ok.ensures.bounded c.in-Ok.ensures.shallow).no_option

pub returns-in-Ok-clause-too_long : goal.returns-in-Ok-clause-too_long
returns-in-Ok-clause-too_long c =
    let a = c.args in
    let few = text_status _ _ _ c.hand_over.result c.hand_over.ensures in
    (text_says_within a.events.now a.bytes.now a.options.now a.names.now a.limits.now
    c.hand_over.result few c.in-Ok.ensures.bounded c.in-Ok.ensures.shallow).too_long

pub returns-in-Ok-clause-too_much : goal.returns-in-Ok-clause-too_much
returns-in-Ok-clause-too_much c =
    let a = c.args in
    let few = text_status _ _ _ c.hand_over.result c.hand_over.ensures in
    (text_says_within a.events.now a.bytes.now a.options.now a.names.now a.limits.now
    c.hand_over.result few c.in-Ok.ensures.bounded c.in-Ok.ensures.shallow).too_much

pub returns-in-Ok-clause-too_deep : goal.returns-in-Ok-clause-too_deep
returns-in-Ok-clause-too_deep c =
    let a = c.args in
    let few = text_status _ _ _ c.hand_over.result c.hand_over.ensures in
    (text_says_within a.events.now a.bytes.now a.options.now a.names.now a.limits.now
    c.hand_over.result few c.in-Ok.ensures.bounded c.in-Ok.ensures.shallow).too_deep

pub returns-in-Ok-clause-bounded : goal.returns-in-Ok-clause-bounded
returns-in-Ok-clause-bounded c =
    let a = c.args in
    let few = text_status _ _ _ c.hand_over.result c.hand_over.ensures in
    (text_says_within a.events.now a.bytes.now a.options.now a.names.now a.limits.now
    c.hand_over.result few c.in-Ok.ensures.bounded c.in-Ok.ensures.shallow).bounded

pub returns-in-Ok-clause-shallow : goal.returns-in-Ok-clause-shallow
returns-in-Ok-clause-shallow c =
    let a = c.args in
    let few = text_status _ _ _ c.hand_over.result c.hand_over.ensures in
    (text_says_within a.events.now a.bytes.now a.options.now a.names.now a.limits.now
    c.hand_over.result few c.in-Ok.ensures.bounded c.in-Ok.ensures.shallow).shallow

pub returns-in-Ok-clause-fields : goal.returns-in-Ok-clause-fields
returns-in-Ok-clause-fields c = text_fields _ _ _ c.hand_over.result c.hand_over.ensures

pub returns-in-Err-clause-text : goal.returns-in-Err-clause-text
returns-in-Err-clause-text c =
    let a = c.args in
    let claim = IsRenderedWithin a.events.now a.bytes.now a.options.now a.names.now a.limits.now in
    within_hands_over claim a.buffer.now c.in-Err.failure c.answer_to_within.result
    c.answer_to_within.ensures

pub returns-in-Err-clause-refused : goal.returns-in-Err-clause-refused
returns-in-Err-clause-refused c =
    let a = c.args in
    (within_says a.events.now a.bytes.now a.options.now a.names.now a.limits.now
    c.in-Err.failure c.answer_to_within.result c.answer_to_within.ensures
    c.in-Err.ensures.err).refused

pub returns-in-Err-clause-no_event : goal.returns-in-Err-clause-no_event
returns-in-Err-clause-no_event c =
    let a = c.args in
    (within_says a.events.now a.bytes.now a.options.now a.names.now a.limits.now
    c.in-Err.failure c.answer_to_within.result c.answer_to_within.ensures
    c.in-Err.ensures.err).no_event

pub returns-in-Err-clause-no_name : goal.returns-in-Err-clause-no_name
returns-in-Err-clause-no_name c =
    let a = c.args in
    (within_says a.events.now a.bytes.now a.options.now a.names.now a.limits.now
    c.in-Err.failure c.answer_to_within.result c.answer_to_within.ensures
    c.in-Err.ensures.err).no_name

pub returns-in-Err-clause-no_option : goal.returns-in-Err-clause-no_option
returns-in-Err-clause-no_option c =
    let a = c.args in
    (within_says a.events.now a.bytes.now a.options.now a.names.now a.limits.now
    c.in-Err.failure c.answer_to_within.result c.answer_to_within.ensures
    c.in-Err.ensures.err).no_option

pub returns-in-Err-clause-too_long : goal.returns-in-Err-clause-too_long
returns-in-Err-clause-too_long c =
    let a = c.args in
    (within_says a.events.now a.bytes.now a.options.now a.names.now a.limits.now
    c.in-Err.failure c.answer_to_within.result c.answer_to_within.ensures
    c.in-Err.ensures.err).too_long

pub returns-in-Err-clause-too_much : goal.returns-in-Err-clause-too_much
returns-in-Err-clause-too_much c =
    let a = c.args in
    (within_says a.events.now a.bytes.now a.options.now a.names.now a.limits.now
    c.in-Err.failure c.answer_to_within.result c.answer_to_within.ensures
    c.in-Err.ensures.err).too_much

pub returns-in-Err-clause-too_deep : goal.returns-in-Err-clause-too_deep
returns-in-Err-clause-too_deep c =
    let a = c.args in
    (within_says a.events.now a.bytes.now a.options.now a.names.now a.limits.now
    c.in-Err.failure c.answer_to_within.result c.answer_to_within.ensures
    c.in-Err.ensures.err).too_deep

pub returns-in-Err-clause-bounded : goal.returns-in-Err-clause-bounded
returns-in-Err-clause-bounded c =
    let a = c.args in
    (within_says a.events.now a.bytes.now a.options.now a.names.now a.limits.now
    c.in-Err.failure c.answer_to_within.result c.answer_to_within.ensures
    c.in-Err.ensures.err).bounded

pub returns-in-Err-clause-shallow : goal.returns-in-Err-clause-shallow
returns-in-Err-clause-shallow c =
    let a = c.args in
    (within_says a.events.now a.bytes.now a.options.now a.names.now a.limits.now
    c.in-Err.failure c.answer_to_within.result c.answer_to_within.ensures
    c.in-Err.ensures.err).shallow

pub returns-in-Err-clause-fields : goal.returns-in-Err-clause-fields
returns-in-Err-clause-fields c =
    let a = c.args in
    within_fields a.events.now a.bytes.now a.options.now a.names.now a.limits.now
    c.in-Err.failure c.answer_to_within.result c.answer_to_within.ensures c.in-Err.ensures.err
