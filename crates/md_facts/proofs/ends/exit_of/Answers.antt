-- The partner of an entry is the exit of its node, at which the same is noticed.
use Rattle.std.proofs.Common.{◌≡◌, ◌≤◌, ◌+◌, subst}
use Rattle.md_tree.specs.Texts.{ExitsAt}
use Rattle.md_facts.specs.NodeFacts.{IsNoticedAt}
use Rattle.md_facts.proofs.Noticed.{partner-entered}
use Rattle.md_facts.proofs.EndLemmas.{some-there, same-place}
use Rattle.md_facts.proofs.ends.exit_of.Goals as goal

pub unwrap-requires : goal.unwrap-requires
unwrap-requires c =
    let found = partner-entered c.args.checked.now c.args.index c.requires.0 c.partner.result
    c.requires.1 c.partner.ensures in
    some-there c.partner.result found.0 found.1

pub returns-clause-later : goal.returns-clause-later
returns-clause-later c =
    let found = partner-entered c.args.checked.now c.args.index c.requires.0 c.partner.result
    c.requires.1 c.partner.ensures in
    subst (λ i. c.args.index ≤ i)
    (same-place c.partner.result found.0 c.unwrap.result found.1 c.unwrap.ensures) found.3

pub returns-clause-exits : goal.returns-clause-exits
returns-clause-exits c = λ name enters.
    let found = partner-entered c.args.checked.now c.args.index name c.partner.result enters
    c.partner.ensures in
    subst (λ i. ExitsAt c.args.checked.now.events i name)
    (same-place c.partner.result found.0 c.unwrap.result found.1 c.unwrap.ensures) found.2

pub returns-clause-noticed : goal.returns-clause-noticed
returns-clause-noticed c = λ one there.
    let found = partner-entered c.args.checked.now c.args.index c.requires.0 c.partner.result
    c.requires.1 c.partner.ensures in
    subst (λ i. IsNoticedAt c.args.checked.now i one)
    (same-place c.partner.result found.0 c.unwrap.result found.1 c.unwrap.ensures)
    (found.4 one there).0

pub returns-clause-inside : goal.returns-clause-inside
returns-clause-inside c = λ one there.
    let found = partner-entered c.args.checked.now c.args.index c.requires.0 c.partner.result
    c.requires.1 c.partner.ensures in
    subst (λ i. i ≡ c.args.index + one.inside)
    (same-place c.partner.result found.0 c.unwrap.result found.1 c.unwrap.ensures)
    (found.4 one there).1
