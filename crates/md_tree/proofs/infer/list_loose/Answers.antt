-- What the fact says of the list is what is defined of its children, with and without the items.
-- The search doesn't split the two kinds of lists, and `Summaries` shows the rest by induction.
use Rattle.std.proofs.Common.{◌⊎◌, inl, inr, ℕ, List, sym, ap, ◌∙◌}
use Rattle.md_tree.proofs.Common.{if◌then◌else◌, Event, Fact, EntersAt, EntersSome}
use Rattle.md_base.specs.declared.event.Name.TheVariants.{ListOrdered, ListUnordered}
use Rattle.md_pattern.specs.Looseness.{is_loose, is_loose_without_items}
use Rattle.md_pattern.proofs.Summaries.{with_items-summary, without_items-summary}
use Rattle.md_tree.proofs.infer.list_loose.Goals as goal

-- a list of either kind
enters_list : (events : List Event) (index : ℕ) → EntersAt events index ListOrdered
    ⊎ EntersAt events index ListUnordered → EntersSome events index
enters_list events index (inl ordered) = (ListOrdered, ordered)
enters_list events index (inr unordered) = (ListUnordered, unordered)

pub fact-requires : goal.fact-requires
fact-requires c = enters_list c.args.checked.now.events c.args.index c.requires

pub returns-then-include_items-clause-loose : goal.returns-then-include_items-clause-loose
returns-then-include_items-clause-loose c = λ children entered.
    let list = enters_list c.args.checked.now.events c.args.index c.requires in
    ap (λ (f : Fact). f.looseness.with_items) (c.fact.ensures.fact list.0 children list.1 entered).1
    ∙ with_items-summary children
    ∙ ap (λ b. if b then is_loose children else is_loose_without_items children)
    (sym c.if-include_items.true)

pub returns-else-include_items-clause-loose : goal.returns-else-include_items-clause-loose
returns-else-include_items-clause-loose c = λ children entered.
    let list = enters_list c.args.checked.now.events c.args.index c.requires in
    ap (λ (f : Fact). f.looseness.without_items)
    (c.fact.ensures.fact list.0 children list.1 entered).1 ∙ without_items-summary children
    ∙ ap (λ b. if b then is_loose children else is_loose_without_items children)
    (sym c.if-include_items.false)
