-- A node whose exit comes right after its entry has no children.
use Rattle.std.proofs.Common.{refl, subst, sym}
use Rattle.md_tree.specs.Texts.{EntersAt, ExitsAt}
use Rattle.md_facts.specs.NodeFacts.{IsNoticedAt}
use Rattle.md_facts.proofs.EndLemmas.{one-more}
use Rattle.md_html.proofs.running.leaf.Goals as goal

pub is_leaf_among-requires-clause-enters : goal.is_leaf_among-requires-clause-enters
is_leaf_among-requires-clause-enters c =
    (c.args.event.name, (c.args.event, c.requires.there, c.in-Enter.is, refl))

pub leaf-requires-clause-exits : goal.leaf-requires-clause-exits
leaf-requires-clause-exits c =
    let enters : EntersAt c.args.context.now.checked.now.events c.args.rest.start
    c.args.event.name =
    (c.args.event, c.requires.there, c.in-Enter.is, refl) in
    subst (λ i. ExitsAt c.args.context.now.checked.now.events i c.args.event.name)
    (sym (one-more c.args.rest.start))
    (c.is_leaf_among.ensures.exits c.if-is_leaf_among.true c.args.event.name enters)

pub leaf-requires-clause-one : goal.leaf-requires-clause-one
leaf-requires-clause-one c = λ one there.
    subst (λ i. IsNoticedAt c.args.context.now.checked.now i one) (sym (one-more c.args.rest.start))
    (c.is_leaf_among.ensures.noticed c.if-is_leaf_among.true one there)
