-- What an answer says of a text with its list, and of a refusal, clause by clause.
-- By itself the search doesn't go through the statuses of an answer: `AttributedLemmas` does.
use Rattle.std.proofs.Common.{◌≤◌, length, subst, sym}
use Rattle.md_abi.specs.Attributed.{IsAttributedText}
use Rattle.md_abi.proofs.ListAnswerLemmas.{list_handed, list_fields, list_status, list_says}
use Rattle.md_abi.proofs.ListAnswerLemmas.{refusal_hands_over, refusal_fields, refusal_says}
use Rattle.md_ffi.proofs.export.bivdrazo_compile_attributed.Goals as goal

pub returns-in-Ok-clause-text : goal.returns-in-Ok-clause-text
returns-in-Ok-clause-text c =
    let claim =
    IsAttributedText c.args.events.now c.args.bytes.now c.args.options.now c.args.names.now
    c.args.attributes.now in
    list_handed claim c.as_str.result.now c.in-Ok.made.start c.args.buffer.now _
    c.hand_over_listed.result
    (subst (claim c.in-Ok.made.start) (sym c.as_str.ensures.value) c.in-Ok.ensures.ok)
    c.hand_over_listed.ensures

pub returns-in-Ok-clause-refused : goal.returns-in-Ok-clause-refused
returns-in-Ok-clause-refused c =
    (list_says c.args.events.now c.args.bytes.now c.args.options.now c.args.names.now
    c.args.attributes.now c.hand_over_listed.result (list_status c.as_str.result.now
    c.in-Ok.made.start c.args.buffer.now _ c.hand_over_listed.result
    (subst (λ whole. c.in-Ok.made.start ≤ length whole) (sym c.as_str.ensures.value)
    c.in-Ok.ensures.ok.listed.within) c.hand_over_listed.ensures)).refused

pub returns-in-Ok-clause-no_event : goal.returns-in-Ok-clause-no_event
returns-in-Ok-clause-no_event c =
    (list_says c.args.events.now c.args.bytes.now c.args.options.now c.args.names.now
    c.args.attributes.now c.hand_over_listed.result (list_status c.as_str.result.now
    c.in-Ok.made.start c.args.buffer.now _ c.hand_over_listed.result
    (subst (λ whole. c.in-Ok.made.start ≤ length whole) (sym c.as_str.ensures.value)
    c.in-Ok.ensures.ok.listed.within) c.hand_over_listed.ensures)).no_event

pub returns-in-Ok-clause-no_name : goal.returns-in-Ok-clause-no_name
returns-in-Ok-clause-no_name c =
    (list_says c.args.events.now c.args.bytes.now c.args.options.now c.args.names.now
    c.args.attributes.now c.hand_over_listed.result (list_status c.as_str.result.now
    c.in-Ok.made.start c.args.buffer.now _ c.hand_over_listed.result
    (subst (λ whole. c.in-Ok.made.start ≤ length whole) (sym c.as_str.ensures.value)
    c.in-Ok.ensures.ok.listed.within) c.hand_over_listed.ensures)).no_name

pub returns-in-Ok-clause-no_option : goal.returns-in-Ok-clause-no_option
returns-in-Ok-clause-no_option c =
    (list_says c.args.events.now c.args.bytes.now c.args.options.now c.args.names.now
    c.args.attributes.now c.hand_over_listed.result (list_status c.as_str.result.now
    c.in-Ok.made.start c.args.buffer.now _ c.hand_over_listed.result
    (subst (λ whole. c.in-Ok.made.start ≤ length whole) (sym c.as_str.ensures.value)
    c.in-Ok.ensures.ok.listed.within) c.hand_over_listed.ensures)).no_option

pub returns-in-Ok-clause-unsafe_options : goal.returns-in-Ok-clause-unsafe_options
returns-in-Ok-clause-unsafe_options c =
    (list_says c.args.events.now c.args.bytes.now c.args.options.now c.args.names.now
    c.args.attributes.now c.hand_over_listed.result (list_status c.as_str.result.now
    c.in-Ok.made.start c.args.buffer.now _ c.hand_over_listed.result
    (subst (λ whole. c.in-Ok.made.start ≤ length whole) (sym c.as_str.ensures.value)
    c.in-Ok.ensures.ok.listed.within) c.hand_over_listed.ensures)).unsafe_options

pub returns-in-Ok-clause-no_attribute : goal.returns-in-Ok-clause-no_attribute
returns-in-Ok-clause-no_attribute c =
    (list_says c.args.events.now c.args.bytes.now c.args.options.now c.args.names.now
    c.args.attributes.now c.hand_over_listed.result (list_status c.as_str.result.now
    c.in-Ok.made.start c.args.buffer.now _ c.hand_over_listed.result
    (subst (λ whole. c.in-Ok.made.start ≤ length whole) (sym c.as_str.ensures.value)
    c.in-Ok.ensures.ok.listed.within) c.hand_over_listed.ensures)).no_attribute

pub returns-in-Ok-clause-fields : goal.returns-in-Ok-clause-fields
returns-in-Ok-clause-fields c =
    list_fields c.as_str.result.now c.in-Ok.made.start c.args.buffer.now _ c.hand_over_listed.result
    (subst (λ whole. c.in-Ok.made.start ≤ length whole) (sym c.as_str.ensures.value)
    c.in-Ok.ensures.ok.listed.within) c.hand_over_listed.ensures

pub returns-in-Err-clause-text : goal.returns-in-Err-clause-text
returns-in-Err-clause-text c =
    refusal_hands_over (IsAttributedText c.args.events.now c.args.bytes.now c.args.options.now
    c.args.names.now c.args.attributes.now) c.args.buffer.now c.in-Err.refusal
    c.answer_to_refusal.result c.answer_to_refusal.ensures

pub returns-in-Err-clause-refused : goal.returns-in-Err-clause-refused
returns-in-Err-clause-refused c =
    (refusal_says c.args.events.now c.args.bytes.now c.args.options.now c.args.names.now
    c.args.attributes.now c.in-Err.refusal c.answer_to_refusal.result c.answer_to_refusal.ensures
    c.in-Err.ensures.err).refused

pub returns-in-Err-clause-no_event : goal.returns-in-Err-clause-no_event
returns-in-Err-clause-no_event c =
    (refusal_says c.args.events.now c.args.bytes.now c.args.options.now c.args.names.now
    c.args.attributes.now c.in-Err.refusal c.answer_to_refusal.result c.answer_to_refusal.ensures
    c.in-Err.ensures.err).no_event

pub returns-in-Err-clause-no_name : goal.returns-in-Err-clause-no_name
returns-in-Err-clause-no_name c =
    (refusal_says c.args.events.now c.args.bytes.now c.args.options.now c.args.names.now
    c.args.attributes.now c.in-Err.refusal c.answer_to_refusal.result c.answer_to_refusal.ensures
    c.in-Err.ensures.err).no_name

pub returns-in-Err-clause-no_option : goal.returns-in-Err-clause-no_option
returns-in-Err-clause-no_option c =
    (refusal_says c.args.events.now c.args.bytes.now c.args.options.now c.args.names.now
    c.args.attributes.now c.in-Err.refusal c.answer_to_refusal.result c.answer_to_refusal.ensures
    c.in-Err.ensures.err).no_option

pub returns-in-Err-clause-unsafe_options : goal.returns-in-Err-clause-unsafe_options
returns-in-Err-clause-unsafe_options c =
    (refusal_says c.args.events.now c.args.bytes.now c.args.options.now c.args.names.now
    c.args.attributes.now c.in-Err.refusal c.answer_to_refusal.result c.answer_to_refusal.ensures
    c.in-Err.ensures.err).unsafe_options

pub returns-in-Err-clause-no_attribute : goal.returns-in-Err-clause-no_attribute
returns-in-Err-clause-no_attribute c =
    (refusal_says c.args.events.now c.args.bytes.now c.args.options.now c.args.names.now
    c.args.attributes.now c.in-Err.refusal c.answer_to_refusal.result c.answer_to_refusal.ensures
    c.in-Err.ensures.err).no_attribute

pub returns-in-Err-clause-fields : goal.returns-in-Err-clause-fields
returns-in-Err-clause-fields c =
    refusal_fields c.args.events.now c.args.bytes.now c.args.options.now c.args.names.now
    c.args.attributes.now
    c.in-Err.refusal c.answer_to_refusal.result c.answer_to_refusal.ensures c.in-Err.ensures.err
