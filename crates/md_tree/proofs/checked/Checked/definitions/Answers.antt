-- The indices that are kept are those of the document's definitions, and at each an event enters
-- one. The search doesn't know what a `Checked` keeps: `Kept` says it.
use Rattle.std.proofs.Common.{subst, sym}
use Rattle.md_tree.proofs.Common.{All, AreDefinitions, EntersAt}
use Rattle.md_base.specs.declared.event.Name.TheVariants.{Definition}
use Rattle.md_tree.proofs.Kept.{definitions-kept, definitions-enter}
use Rattle.md_tree.proofs.checked.Checked.definitions.Goals as goal

pub returns-clause-definitions : goal.returns-clause-definitions
returns-clause-definitions c =
    subst (λ ds. AreDefinitions c.args.self.now ds) (sym c.as_slice.ensures.value)
    (definitions-kept c.self.inside c.args.self.now 0 c.self.invariant c.self.view_is)

pub returns-clause-entered : goal.returns-clause-entered
returns-clause-entered c =
    subst (λ ds. All (λ i. EntersAt c.args.self.now.events i Definition) ds)
    (sym c.as_slice.ensures.value)
    (definitions-enter c.self.inside c.args.self.now 0 c.self.invariant c.self.view_is)
