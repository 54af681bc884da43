-- What an answer says of a text with its list, and of a failure, clause by clause.
-- By itself the search doesn't go through the statuses of an answer: `AnswerLemmas` does.
use Rattle.std.proofs.Common.{◌≤◌, length, subst, sym}
use Rattle.md_abi.proofs.ListAnswerLemmas.{list_handed, list_status}
use Rattle.md_markdown_abi.specs.Slugged.{IsSluggedText}
use Rattle.md_markdown_abi.proofs.AnswerLemmas.{text_says, text_fields}
use Rattle.md_markdown_abi.proofs.AnswerLemmas.{markdown_hands_over, markdown_says}
use Rattle.md_markdown_abi.proofs.AnswerLemmas.{markdown_fields}
use Rattle.md_ffi.proofs.slugged.bivdrazo_markdown_slugs_into.Goals as goal

pub returns-in-Ok-clause-text : goal.returns-in-Ok-clause-text
returns-in-Ok-clause-text c =
    let claim = IsSluggedText c.args.text.now c.args.options.now in
    list_handed claim c.as_str.result.now c.in-Ok.made.start c.args.buffer.now _
    c.hand_over_listed.result
    (subst (claim c.in-Ok.made.start) (sym c.as_str.ensures.value) c.in-Ok.ensures.ok)
    c.hand_over_listed.ensures

pub returns-in-Ok-clause-told : goal.returns-in-Ok-clause-told
returns-in-Ok-clause-told c =
    text_says c.args.text.now c.args.options.now c.hand_over_listed.result
    (list_status c.as_str.result.now c.in-Ok.made.start c.args.buffer.now _
    c.hand_over_listed.result
    (subst (λ whole. c.in-Ok.made.start ≤ length whole) (sym c.as_str.ensures.value)
    c.in-Ok.ensures.ok.slugged.within) c.hand_over_listed.ensures)
    c.in-Ok.ensures.read

pub returns-in-Ok-clause-fields : goal.returns-in-Ok-clause-fields
returns-in-Ok-clause-fields c =
    text_fields c.as_str.result.now c.in-Ok.made.start c.args.buffer.now _ c.hand_over_listed.result
    (subst (λ whole. c.in-Ok.made.start ≤ length whole) (sym c.as_str.ensures.value)
    c.in-Ok.ensures.ok.slugged.within) c.hand_over_listed.ensures

pub returns-in-Err-clause-text : goal.returns-in-Err-clause-text
returns-in-Err-clause-text c =
    markdown_hands_over (IsSluggedText c.args.text.now c.args.options.now) c.args.buffer.now
    c.in-Err.failure c.answer_to_markdown.result c.answer_to_markdown.ensures

pub returns-in-Err-clause-told : goal.returns-in-Err-clause-told
returns-in-Err-clause-told c =
    markdown_says c.args.text.now c.args.options.now c.in-Err.failure c.answer_to_markdown.result
    c.answer_to_markdown.ensures c.in-Err.ensures.err

pub returns-in-Err-clause-fields : goal.returns-in-Err-clause-fields
returns-in-Err-clause-fields c =
    markdown_fields c.args.text.now c.args.options.now c.in-Err.failure c.answer_to_markdown.result
    c.answer_to_markdown.ensures c.in-Err.ensures.err
