-- The text depends on whether the events are those of a document that is shown.
use Rattle.std.proofs.Common.{◌≤◌, ◌<◌, subst, sym, ◌∙◌}
use Rattle.std.proofs.lemmas.Result.{IfOk-weaker}
use Rattle.md_markdown.specs.Depth.{most_depth}
use Rattle.md_html.specs.MeasuredEvents.{handed_by}
use Rattle.md_markdown.proofs.PlainLemmas.{too_deep, is_shown, meant_nests, never_nested}
use Rattle.md_markdown.proofs.compiling.compile_or_plain.Goals as goal
use goal.{then-depth-gt-MAX_DEPTH-via-then-depth-gt-MAX_DEPTH as too-deep}
use goal.{then-depth-gt-MAX_DEPTH-via-else-depth-gt-MAX_DEPTH+then-has_nested_link as nested}

pub returns-then-depth-gt-MAX_DEPTH-clause-kept :
    goal.returns-then-depth-gt-MAX_DEPTH-clause-kept
returns-then-depth-gt-MAX_DEPTH-clause-kept c =
    let parsed = c.args.parsed.now in
    IfOk-weaker c.compile_plain.result _ _
    (λ html _ document shown. absurd (elim c.then-depth-gt-MAX_DEPTH.branch [
      | too-deep w ↦ too_deep (handed_by parsed) most_depth document
          (subst (λ n. most_depth < n) (c.depth.ensures parsed.events.now parsed.measured)
          w.if-depth-gt-MAX_DEPTH.true) shown
      | nested w ↦ never_nested (handed_by parsed) most_depth document w.has_nested_link.result
          (w.has_nested_link.ensures parsed.events.now document parsed.measured
          shown.read.flattened) w.if-has_nested_link.true shown
    ]))
    c.compile_plain.ensures.text

pub returns-in-Ok-clause-plain : goal.returns-in-Ok-clause-plain
returns-in-Ok-clause-plain c =
    let checked = c.in-Ok.ensures.promises.grammatical in
    λ none. absurd (none checked.0 (is_shown (handed_by c.args.parsed.now) most_depth checked
    (sym (c.has_nested_link.ensures c.args.parsed.now.events.now checked.0
    c.args.parsed.now.measured checked.1.flattened) ∙ c.if-has_nested_link.false)
    (subst (λ n. n ≤ most_depth) (c.depth.ensures c.args.parsed.now.events.now
    c.args.parsed.now.measured) c.if-depth-gt-MAX_DEPTH.false)))

pub returns-in-Ok-clause-nesting : goal.returns-in-Ok-clause-nesting
returns-in-Ok-clause-nesting c =
    meant_nests (handed_by c.args.parsed.now) c.args.options.now c.in-Ok.html c.requires.safe
    (subst (λ n. n ≤ most_depth) (c.depth.ensures c.args.parsed.now.events.now
    c.args.parsed.now.measured) c.if-depth-gt-MAX_DEPTH.false)
    c.in-Ok.ensures.promises.grammatical c.in-Ok.ensures.promises.meaning

pub returns-in-Ok-clause-tree : goal.returns-in-Ok-clause-tree
returns-in-Ok-clause-tree c =
    let checked = c.in-Ok.ensures.promises.grammatical in
    c.in-Ok.ensures.promises.tree checked.0 checked.1.flattened
    (sym (c.has_nested_link.ensures c.args.parsed.now.events.now checked.0
    c.args.parsed.now.measured checked.1.flattened) ∙ c.if-has_nested_link.false)
