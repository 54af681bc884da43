-- The text depends on whether the events are those of a document that is shown.
use Rattle.std.proofs.Common.{sym, ◌∙◌}
use Rattle.std.proofs.lemmas.Result.{IfOk-weaker}
use Rattle.md_html.specs.MeasuredEvents.{handed_by}
use Rattle.md_markdown.proofs.PlainLemmas.{is_shown, never_shown, never_nested}
use Rattle.md_markdown.proofs.compiling.compile_or_plain_within.Goals as goal

pub returns-in-Ok-clause-plain : goal.returns-in-Ok-clause-plain
returns-in-Ok-clause-plain c =
    let checked = c.in-Ok.ensures.promises.grammatical in
    λ none. absurd (none checked.0 (is_shown (handed_by c.args.parsed.now)
    c.args.within.now.limits.depth checked
    (sym (c.has_nested_link.ensures c.args.parsed.now.events.now checked.0
    c.args.parsed.now.measured checked.1.flattened) ∙ c.if-has_nested_link.false)
    c.in-Ok.ensures.within.depth))

pub returns-in-None-clause-kept : goal.returns-in-None-clause-kept
returns-in-None-clause-kept c =
    IfOk-weaker c.compile_plain_within-in-None.result _ _
    (λ html _ document shown. absurd (never_shown (handed_by c.args.parsed.now)
    c.args.within.now.limits.depth c.in-Err.error document c.in-Err.ensures.refused.too_deep
    c.in-Err.ensures.refused.refused (sym c.of_limits.ensures ∙ c.in-None.is) shown))
    c.compile_plain_within-in-None.ensures.text

pub returns-then-has_nested_link-clause-kept : goal.returns-then-has_nested_link-clause-kept
returns-then-has_nested_link-clause-kept c =
    IfOk-weaker c.compile_plain_within.result _ _
    (λ html _ document shown. absurd (never_nested (handed_by c.args.parsed.now)
    c.args.within.now.limits.depth document c.has_nested_link.result
    (c.has_nested_link.ensures c.args.parsed.now.events.now document c.args.parsed.now.measured
    shown.read.flattened) c.if-has_nested_link.true shown))
    c.compile_plain_within.ensures.text

pub returns-in-Ok-clause-tree : goal.returns-in-Ok-clause-tree
returns-in-Ok-clause-tree c =
    let checked = c.in-Ok.ensures.promises.grammatical in
    c.in-Ok.ensures.promises.tree checked.0 checked.1.flattened
    (sym (c.has_nested_link.ensures c.args.parsed.now.events.now checked.0
    c.args.parsed.now.measured checked.1.flattened) ∙ c.if-has_nested_link.false)
