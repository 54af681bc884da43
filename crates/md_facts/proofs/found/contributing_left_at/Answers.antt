-- Where the check found the last contributing child of the item, a node of its name is entered.
use Rattle.std.proofs.Common.{◌≡◌, ◌<◌, ℕ, suc, Option, Some, None, length, sym, ap, ◌∙◌, subst}
use Rattle.std.specs.Prelude.{slice_get}
use Rattle.md_base.specs.declared.event.Name.TheVariants.{ListItem}
use Rattle.md_base.specs.Tree.{Forest}
use Rattle.md_base.specs.Children.{last_contributing}
use Rattle.md_pattern.specs.Partners.{last_contributing_at}
use Rattle.md_tree.specs.Entered.{IsEnteredAt}
use Rattle.md_tree.specs.Grammar.{Handed}
use Rattle.md_tree.specs.Texts.{EntersAt}
use Rattle.md_tree.proofs.Entering.{got_inside}
use Rattle.md_steps.specs.Run.{Noticed}
use Rattle.md_facts.proofs.Noticed.{entered}
use Rattle.md_facts.proofs.FoundLemmas.{Named, contributing-named}
use Rattle.md_facts.proofs.found.contributing_left_at.Goals as goal

pub entry_of-requires : goal.entry_of-requires
entry_of-requires c = (ListItem, c.requires)

pub last_contributing-requires : goal.last_contributing-requires
last_contributing-requires c = c.entry_of.ensures.enters ListItem c.requires

-- what is known where the index is found
there : (given : Handed) (entry : ℕ) (found : Option ℕ) (children : Forest) →
    EntersAt given.events entry ListItem →
    IsEnteredAt given entry children → found ≡ last_contributing_at (suc entry) children →
    Named given.events found (last_contributing children)
there given entry found children enters entered is =
    rw is (contributing-named given entry ListItem children enters entered)

pub returns-in_err-last : goal.returns-in_err-last
returns-in_err-last c = λ one at.
    let enters = c.entry_of.ensures.enters ListItem c.requires in
    let seen = entered c.args.checked.now c.entry_of.result ListItem one enters
    (c.entry_of.ensures.noticed one at) in
    c.from_residual.ensures
    ∙ sym (there c.args.checked.now c.entry_of.result None seen.node.children enters seen.entered
    (c.in_err-last.ensures.contributing seen.node.children seen.entered))
    ∙ ap (λ (n : Noticed). n.facts.contributing) (sym seen.is)

pub name_at-requires : goal.name_at-requires
name_at-requires c =
    let enters = c.entry_of.ensures.enters ListItem c.requires in
    let inner = c.in_ok-last.ensures.entered in
    let child = there c.args.checked.now c.entry_of.result (Some c.in_ok-last.last) inner.0 enters
    inner.1 (c.in_ok-last.ensures.contributing inner.0 inner.1) in
    subst (λ es. c.in_ok-last.last < length es) (sym c.events.ensures.events)
    (got_inside c.args.checked.now.events c.in_ok-last.last child.2.0 child.2.1)

pub returns : goal.returns
returns c = λ one at.
    let enters = c.entry_of.ensures.enters ListItem c.requires in
    let seen = entered c.args.checked.now c.entry_of.result ListItem one enters
    (c.entry_of.ensures.noticed one at) in
    let child =
    there c.args.checked.now c.entry_of.result (Some c.in_ok-last.last) seen.node.children enters
    seen.entered (c.in_ok-last.ensures.contributing seen.node.children seen.entered) in
    ap Some
    (c.name_at.ensures child.2.0 (ap (λ es. slice_get es c.in_ok-last.last) c.events.ensures.events
    ∙ child.2.1) ∙ child.2.3)
    ∙ sym child.1 ∙ ap (λ (n : Noticed). n.facts.contributing) (sym seen.is)
