-- What `exit_common` leaves is the pass after this exit, in an open node and where only the
-- document is left. The search can't see that the first of the open nodes changes where the last
-- of the vector does.
use Rattle.std.proofs.Common.{rules, ◌≡◌, ◌<◌, ◌-◌, ◌++◌, ◌∷◌, [], length, get_or}
use Rattle.std.proofs.Common.{refl, sym, ap, ◌∙◌, subst}
use Rattle.std.specs.Prelude.{set}
use Rattle.md_pattern.specs.contracts.facts.Pass.{the_view}
use Rattle.md_pattern.specs.Facts.{opens, fact_of, partner_alone}
use Rattle.md_pattern.specs.Columns.{Collected}
use Rattle.md_pattern.proofs.CommonNames.{common-columns, common-definitions}
use Rattle.md_pattern.proofs.Opens.{opens-set, opens-last, opens-alone, passed_exit-by}
use Rattle.md_pattern.proofs.facts.Pass.exit_common.Goals as goal

pub returns-in-Some : goal.returns-in-Some
returns-in-Some c =
    let pass = the_view c.self.inside in
    let name = c.args.name in
    let own = c.leave_innermost-child.result in
    let items = c.leave_innermost-child.new.open_nodes.items in
    let document = c.leave_innermost-child.new.document in
    let left = opens items document in
    let here = c.in-Some.here.now in
    let after = c.follow_common.new.here in
    let counted = c.leave_innermost-child.new.open_nodes.ok.0 in
    let some : 0 < length items = subst (λ n. 0 < n) counted (search rules) in
    let fact = record (partner_alone (length pass.facts)) {
      read_at = c.common_read_at-read_at.result;
      looseness = c.summary_looseness.result;
    } in
    let fact_is : fact ≡ fact_of name (length pass.facts)
    (length (Collected.tables pass.columns)) own.contributing own.sought own.summary = search rules
    in
    let facts_is = c.in_ok-close.ensures
    ∙ ap (λ f. set pass.facts own.entry f ++ partner_alone own.entry ∷ []) fact_is in
    let here_is = c.in-Some.ensures.value ∙ ap (λ n. get_or items (n - 1) here) counted
    ∙ opens-last items document here some in
    let stack_is = ap (λ n. opens (set items (n - 1) after) document) counted
    ∙ opens-set items document after some in
    rw (← c.self.view_is) (passed_exit-by name pass own here after c.close.new.self pass.columns
    pass.definitions left _ c.leave_innermost-child.ensures.own c.leave_innermost-child.ensures.left
    here_is stack_is c.follow_common.ensures facts_is
    (common-columns name own.summary here.collects pass.columns c.requires)
    (common-definitions name own.entry pass.definitions c.requires))

pub returns-in-None : goal.returns-in-None
returns-in-None c =
    let pass = the_view c.self.inside in
    let name = c.args.name in
    let own = c.leave_innermost-child.result in
    let items = c.leave_innermost-child.new.open_nodes.items in
    let document = c.leave_innermost-child.new.document in
    let after = c.follow_common-in-None.new.here in
    let none : length items ≡ 0 =
    subst (λ n. n ≡ 0) c.leave_innermost-child.new.open_nodes.ok.0 (search rules) in
    let fact = record (partner_alone (length pass.facts)) {
      read_at = c.common_read_at-read_at.result;
      looseness = c.summary_looseness.result;
    } in
    let fact_is : fact ≡ fact_of name (length pass.facts)
    (length (Collected.tables pass.columns)) own.contributing own.sought own.summary = search rules
    in
    let facts_is = c.in_ok-close.ensures
    ∙ ap (λ f. set pass.facts own.entry f ++ partner_alone own.entry ∷ []) fact_is in
    let left_is = sym (opens-alone items document none) ∙ c.leave_innermost-child.ensures.left in
    rw (← c.self.view_is) (passed_exit-by name pass own document after c.close.new.self
    pass.columns pass.definitions (document ∷ []) _ c.leave_innermost-child.ensures.own left_is
    refl (opens-alone items after none) c.follow_common-in-None.ensures facts_is
    (common-columns name own.summary document.collects pass.columns c.requires)
    (common-definitions name own.entry pass.definitions c.requires))
