-- The place in the fact is the last contributing child that is defined of the item. The pass finds
-- it from the first child to the last, so it is shown by induction, in `Contributing`.
use Rattle.std.proofs.Common.{ap, ◌∙◌}
use Rattle.md_tree.proofs.Common.{ListItem, Fact, index_if}
use Rattle.md_tree.proofs.Contributing.{contributing-found}
use Rattle.md_tree.proofs.checked.Checked.last_contributing.Goals as goal

pub returns-clause-contributing : goal.returns-clause-contributing
returns-clause-contributing c = λ children entered.
    let found = c.fact.ensures.fact ListItem children c.requires entered in
    c.index_if.ensures ∙ ap (λ (f : Fact). index_if f.read_at) found.1
    ∙ contributing-found children c.args.index
