-- A text, or why there is none.
use Rattle.std.proofs.Common.{◌==◌, sym, ap, ◌∙◌, eqb-true, length}
use Rattle.md_base.proofs.Lies.{lie}
use Rattle.md_reader.specs.Allowed.{content_of}
use Rattle.md_reader.specs.Tests.{test_of}
use Rattle.md_reader.proofs.NodeLemmas.{text-node, no-text, filled, empty}
use Rattle.md_reader.proofs.nodes.past_text.Goals as goal

pub returns-then-is_empty-clause-is : goal.returns-then-is_empty-clause-is
returns-then-is_empty-clause-is c = no-text (test_of c.args.rules.now) (content_of c.args.content)
    c.args.depth c.args.text.now c.split_escaped.result.0.now c.split_escaped.result.1.now
    c.split_escaped.ensures.run c.requires.open c.requires.no_tag
    (λ found says ends. empty c.split_escaped.result.0.now
    (eqb-true (length c.split_escaped.result.0.now) 0 (sym c.is_empty.ensures
    ∙ c.if-is_empty.true)) found)

pub returns-then-not-may_say-clause-is : goal.returns-then-not-may_say-clause-is
returns-then-not-may_say-clause-is c = no-text (test_of c.args.rules.now)
    (content_of c.args.content) c.args.depth c.args.text.now c.split_escaped.result.0.now
    c.split_escaped.result.1.now c.split_escaped.ensures.run c.requires.open c.requires.no_tag
    (λ found says ends. lie (sym c.if-not-may_say.true ∙ c.may_say.ensures ∙ says))

pub returns-then-ends_text-clause-is : goal.returns-then-ends_text-clause-is
returns-then-ends_text-clause-is c = text-node (test_of c.args.rules.now)
    (content_of c.args.content) c.args.depth c.args.text.now c.split_escaped.result.0.now
    c.split_escaped.result.1.now c.split_escaped.ensures.run c.requires.open c.requires.no_tag
    (filled c.split_escaped.result.0.now (λ zero. lie (sym c.if-is_empty.false
    ∙ c.is_empty.ensures ∙ ap (λ n. n == 0) zero)))
    (sym c.may_say.ensures ∙ c.if-not-may_say.false)
    (c.ends_text.ensures.ends c.if-ends_text.true)

pub returns-else-ends_text-clause-is : goal.returns-else-ends_text-clause-is
returns-else-ends_text-clause-is c = no-text (test_of c.args.rules.now)
    (content_of c.args.content) c.args.depth c.args.text.now c.split_escaped.result.0.now
    c.split_escaped.result.1.now c.split_escaped.ensures.run c.requires.open c.requires.no_tag
    (λ found says ends. c.ends_text.ensures.goes_on c.if-ends_text.false ends)
