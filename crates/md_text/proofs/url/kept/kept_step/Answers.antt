-- A triple, or plain bytes.
use Rattle.std.proofs.Common.{sym, ap, ◌∙◌, arith, min}
use Rattle.std.proofs.lemmas.List.{take_rest}
use Rattle.std.specs.List.{prefix_len}
use Rattle.md_text.specs.Kept.{is_plain}
use Rattle.md_text.proofs.PlainLemmas.{kept-triple, kept-plain, first-plain}
use Rattle.md_text.proofs.url.kept.kept_step.Goals as goal

pub returns-then-begins_triple-clause-kept : goal.returns-then-begins_triple-clause-kept
returns-then-begins_triple-clause-kept c =
    kept-triple c.args.bytes.now (sym c.begins_triple.ensures ∙ c.if-begins_triple.true)

pub returns-then-few-eq-FEW-clause-kept : goal.returns-then-few-eq-FEW-clause-kept
returns-then-few-eq-FEW-clause-kept c =
    kept-plain c.run_length.result c.args.bytes.now (omega (arith, c.run_length.ensures))

pub returns-else-few-eq-FEW-clause-kept : goal.returns-else-few-eq-FEW-clause-kept
returns-else-few-eq-FEW-clause-kept c =
    let bytes = c.args.bytes.now in
    let more = c.first_plain-few.ensures
    ∙ ap (λ after. min 3 (prefix_len is_plain after)) (take_rest bytes 1) in
    let few = first-plain bytes c.first_plain-few.result c.in-len1-up.len_at_least
    (sym c.is_plain_byte.ensures ∙ c.if-is_plain_byte.true) more in
    kept-plain _ bytes (omega (arith, few))
