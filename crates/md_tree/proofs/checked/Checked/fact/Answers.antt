-- Where an event enters a node, its index is one of a fact, and the fact is that of the node. The
-- search doesn't know what a `Checked` keeps: `Kept` says it.
use Rattle.md_tree.proofs.Kept.{facts-inside, node-entered, fact-kept}
use Rattle.md_tree.proofs.checked.Checked.fact.Goals as goal

pub fact_at-requires : goal.fact_at-requires
fact_at-requires c =
    facts-inside c.self.inside c.args.self.now c.args.index c.self.invariant c.self.view_is
    c.requires

pub returns-clause-entered : goal.returns-clause-entered
returns-clause-entered c =
    node-entered c.self.inside c.args.self.now c.args.index c.self.invariant c.self.view_is
    c.requires

pub returns-clause-fact : goal.returns-clause-fact
returns-clause-fact c =
    fact-kept c.self.inside c.args.self.now c.args.index c.self.invariant
    c.self.view_is c.fact_at.result c.fact_at.ensures
