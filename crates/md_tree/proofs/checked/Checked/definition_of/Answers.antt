-- The number at an exit is that of its mention. The search doesn't know what a `Checked`
-- keeps: `Kept` says it.
use Rattle.std.proofs.Common.{◌∙◌}
use Rattle.md_tree.proofs.Common.{is_of_definitions}
use Rattle.md_tree.proofs.Kept.{exit-inside, definition-kept}
use Rattle.md_tree.proofs.checked.Checked.definition_of.Goals as goal

pub fact_at-requires : goal.fact_at-requires
fact_at-requires c =
    exit-inside c.self.inside c.args.self.now c.args.index c.self.invariant c.self.view_is
    is_of_definitions c.requires

pub returns : goal.returns
returns c = λ forest mention flattens here.
    c.place_of.ensures ∙ definition-kept c.self.inside c.args.self.now c.args.index c.self.invariant
    c.self.view_is c.requires c.fact_at.result c.fact_at.ensures forest mention flattens here
