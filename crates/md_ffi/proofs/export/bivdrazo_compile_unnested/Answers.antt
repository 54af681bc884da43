-- What an answer says of a text without a link in a link, and of a failure, clause by clause.
-- By itself the search doesn't go through the statuses of an answer: `UnnestedLemmas` does.
use Rattle.std.proofs.Common.{subst, sym}
use Rattle.md_abi.specs.Unnested.{IsUnnestedText}
use Rattle.md_abi.proofs.AnswerLemmas.{handed_over, text_status}
use Rattle.md_abi.proofs.UnnestedLemmas.{text_of_unnested, text_says_unnested}
use Rattle.md_abi.proofs.UnnestedLemmas.{unnested_hands_over, unnested_fields, unnested_says}
use Rattle.md_ffi.proofs.export.bivdrazo_compile_unnested.Goals as goal

pub returns-in-Ok-clause-text : goal.returns-in-Ok-clause-text
returns-in-Ok-clause-text c =
    let a = c.args in
    let claim = IsUnnestedText a.events.now a.bytes.now a.options.now a.names.now in
    handed_over claim c.as_str.result.now a.buffer.now _ c.hand_over.result
    (subst claim (sym c.as_str.ensures.text) c.in-Ok.ensures.ok) c.hand_over.ensures

pub returns-in-Ok-clause-refused : goal.returns-in-Ok-clause-refused
returns-in-Ok-clause-refused c =
    let a = c.args in
    (text_says_unnested a.events.now a.bytes.now a.options.now a.names.now c.hand_over.result
    (text_status _ _ _ c.hand_over.result c.hand_over.ensures)).refused

pub returns-in-Ok-clause-no_event : goal.returns-in-Ok-clause-no_event
returns-in-Ok-clause-no_event c =
    let a = c.args in
    (text_says_unnested a.events.now a.bytes.now a.options.now a.names.now c.hand_over.result
    (text_status _ _ _ c.hand_over.result c.hand_over.ensures)).no_event

pub returns-in-Ok-clause-no_name : goal.returns-in-Ok-clause-no_name
returns-in-Ok-clause-no_name c =
    let a = c.args in
    (text_says_unnested a.events.now a.bytes.now a.options.now a.names.now c.hand_over.result
    (text_status _ _ _ c.hand_over.result c.hand_over.ensures)).no_name

pub returns-in-Ok-clause-no_option : goal.returns-in-Ok-clause-no_option
returns-in-Ok-clause-no_option c =
    let a = c.args in
    (text_says_unnested a.events.now a.bytes.now a.options.now a.names.now c.hand_over.result
    (text_status _ _ _ c.hand_over.result c.hand_over.ensures)).no_option

pub returns-in-Ok-clause-unsafe_options : goal.returns-in-Ok-clause-unsafe_options
returns-in-Ok-clause-unsafe_options c =
    let a = c.args in
    (text_says_unnested a.events.now a.bytes.now a.options.now a.names.now c.hand_over.result
    (text_status _ _ _ c.hand_over.result c.hand_over.ensures)).unsafe_options

pub returns-in-Ok-clause-nested : goal.returns-in-Ok-clause-nested
returns-in-Ok-clause-nested c =
    let a = c.args in
    (text_says_unnested a.events.now a.bytes.now a.options.now a.names.now c.hand_over.result
    (text_status _ _ _ c.hand_over.result c.hand_over.ensures)).nested

pub returns-in-Ok-clause-fields : goal.returns-in-Ok-clause-fields
returns-in-Ok-clause-fields c =
    text_of_unnested _ _ _ c.hand_over.result c.hand_over.ensures
    (text_status _ _ _ c.hand_over.result c.hand_over.ensures)

pub returns-in-Err-clause-text : goal.returns-in-Err-clause-text
returns-in-Err-clause-text c =
    let a = c.args in
    unnested_hands_over (IsUnnestedText a.events.now a.bytes.now a.options.now a.names.now)
    a.buffer.now c.in-Err.failure c.answer_to_unnested.result c.answer_to_unnested.ensures

pub returns-in-Err-clause-refused : goal.returns-in-Err-clause-refused
returns-in-Err-clause-refused c =
    let a = c.args in
    (unnested_says a.events.now a.bytes.now a.options.now a.names.now c.in-Err.failure
    c.answer_to_unnested.result c.answer_to_unnested.ensures c.in-Err.ensures.err).refused

pub returns-in-Err-clause-no_event : goal.returns-in-Err-clause-no_event
returns-in-Err-clause-no_event c =
    let a = c.args in
    (unnested_says a.events.now a.bytes.now a.options.now a.names.now c.in-Err.failure
    c.answer_to_unnested.result c.answer_to_unnested.ensures c.in-Err.ensures.err).no_event

pub returns-in-Err-clause-no_name : goal.returns-in-Err-clause-no_name
returns-in-Err-clause-no_name c =
    let a = c.args in
    (unnested_says a.events.now a.bytes.now a.options.now a.names.now c.in-Err.failure
    c.answer_to_unnested.result c.answer_to_unnested.ensures c.in-Err.ensures.err).no_name

pub returns-in-Err-clause-no_option : goal.returns-in-Err-clause-no_option
returns-in-Err-clause-no_option c =
    let a = c.args in
    (unnested_says a.events.now a.bytes.now a.options.now a.names.now c.in-Err.failure
    c.answer_to_unnested.result c.answer_to_unnested.ensures c.in-Err.ensures.err).no_option

pub returns-in-Err-clause-unsafe_options : goal.returns-in-Err-clause-unsafe_options
returns-in-Err-clause-unsafe_options c =
    let a = c.args in
    (unnested_says a.events.now a.bytes.now a.options.now a.names.now c.in-Err.failure
    c.answer_to_unnested.result c.answer_to_unnested.ensures c.in-Err.ensures.err).unsafe_options

pub returns-in-Err-clause-nested : goal.returns-in-Err-clause-nested
returns-in-Err-clause-nested c =
    let a = c.args in
    (unnested_says a.events.now a.bytes.now a.options.now a.names.now c.in-Err.failure
    c.answer_to_unnested.result c.answer_to_unnested.ensures c.in-Err.ensures.err).nested

pub returns-in-Err-clause-fields : goal.returns-in-Err-clause-fields
returns-in-Err-clause-fields c =
    let a = c.args in
    unnested_fields a.events.now a.bytes.now a.options.now a.names.now c.in-Err.failure
    c.answer_to_unnested.result c.answer_to_unnested.ensures c.in-Err.ensures.err
