-- The fact about the item is the one that is defined for its children. The pass receives it child
-- by child, so `Summaries` proves it by induction.
use Rattle.std.proofs.Common.{ap, ◌∙◌}
use Rattle.md_tree.proofs.Common.{ListItem, Fact}
use Rattle.md_pattern.proofs.Summaries.{of_item-summary}
use Rattle.md_tree.proofs.infer.list_item_loose.Goals as goal

pub returns-clause-loose : goal.returns-clause-loose
returns-clause-loose c = λ children entered. ap (λ (f : Fact). f.looseness.of_item)
    (c.fact.ensures.fact ListItem children c.requires entered).1 ∙ of_item-summary children
