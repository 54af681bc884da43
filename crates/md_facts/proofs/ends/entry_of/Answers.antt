-- The partner of an exit is the entry of its node, at which the same is noticed.
use Rattle.std.proofs.Common.{subst}
use Rattle.md_tree.specs.Texts.{EntersAt}
use Rattle.md_facts.specs.NodeFacts.{IsNoticedAt}
use Rattle.md_facts.proofs.Noticed.{partner-exited}
use Rattle.md_facts.proofs.EndLemmas.{some-there, same-place}
use Rattle.md_facts.proofs.ends.entry_of.Goals as goal

pub unwrap-requires : goal.unwrap-requires
unwrap-requires c =
    let found = partner-exited c.args.checked.now c.args.index c.requires.0 c.partner.result
    c.requires.1 c.partner.ensures in
    some-there c.partner.result found.0 found.1

pub returns-clause-enters : goal.returns-clause-enters
returns-clause-enters c = λ name exits.
    let found =
    partner-exited c.args.checked.now c.args.index name c.partner.result exits c.partner.ensures in
    subst (λ i. EntersAt c.args.checked.now.events i name)
    (same-place c.partner.result found.0 c.unwrap.result found.1 c.unwrap.ensures) found.2

pub returns-clause-noticed : goal.returns-clause-noticed
returns-clause-noticed c = λ one there.
    let found = partner-exited c.args.checked.now c.args.index c.requires.0 c.partner.result
    c.requires.1 c.partner.ensures in
    subst (λ i. IsNoticedAt c.args.checked.now i one)
    (same-place c.partner.result found.0 c.unwrap.result found.1 c.unwrap.ensures)
    (found.3 one there)
