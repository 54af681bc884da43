-- What `leaf` leaves is the pass after an entry and its exit, in an open node and in the document
-- itself. The search can't see that two steps of the definition are the one of the code, nor which
-- open node changes.
use Rattle.std.proofs.Common.{rules, ◌≡◌, ◌<◌, ◌+◌, ◌-◌, ◌++◌, ◌∷◌, [], length, get_or, refl, sym}
use Rattle.std.proofs.Common.{ap, ◌∙◌, subst}
use Rattle.std.specs.Prelude.{set}
use Rattle.md_pattern.specs.contracts.facts.Pass.{the_view}
use Rattle.md_pattern.specs.Facts.{opens, next_outer, others_outer, partner_alone}
use Rattle.md_pattern.proofs.Opens.{on_answer, opens-set, opens-last, opens-alone, passed_leaf-by}
use Rattle.md_pattern.proofs.facts.Pass.leaf.Goals as goal

pub returns-in-Some : goal.returns-in-Some
returns-in-Some c =
    let pass = the_view c.self.inside in
    let name = c.args.name in
    let entry = c.in_ok-entry.entry in
    let items = c.self.inside.open_nodes.items in
    let document = c.self.inside.document in
    let here = c.in-Some.here.now in
    let after = c.follow_leaf.new.here in
    let counted = c.self.inside.open_nodes.ok.0 in
    let some : 0 < length items = subst (λ n. 0 < n) counted (search rules) in
    let entry_is : entry ≡ length pass.facts = search rules in
    let once = pass.facts ++ partner_alone (entry + 1) ∷ [] in
    let twice_is : c.push_leaf.new.self ≡ once ++ partner_alone entry ∷ [] = search rules in
    let here_is = c.in-Some.ensures.value ∙ ap (λ n. get_or items (n - 1) here) counted
    ∙ opens-last items document here some in
    let stack_is = ap (λ n. opens (set items (n - 1) after) document) counted
    ∙ opens-set items document after some in
    rw (← c.self.view_is) (on_answer _ _ _ _ (λ after_is columns_is definitions_is.
    passed_leaf-by name pass entry here after c.follow_leaf.new.ended.columns once
    c.push_leaf.new.self c.follow_leaf.new.ended.definitions.items _ c.requires entry_is refl
    twice_is here_is stack_is columns_is definitions_is after_is)
    c.follow_leaf.result c.follow_leaf.ensures.here c.follow_leaf.ensures.columns
    c.follow_leaf.ensures.definitions)

pub returns-in-None : goal.returns-in-None
returns-in-None c =
    let pass = the_view c.self.inside in
    let name = c.args.name in
    let entry = c.in_ok-entry.entry in
    let items = c.self.inside.open_nodes.items in
    let document = c.self.inside.document in
    let after = c.follow_leaf-in-None.new.here in
    let none : length items ≡ 0 = subst (λ n. n ≡ 0) c.self.inside.open_nodes.ok.0 (search rules) in
    let entry_is : entry ≡ length pass.facts = search rules in
    let once = pass.facts ++ partner_alone (entry + 1) ∷ [] in
    let twice_is : c.push_leaf.new.self ≡ once ++ partner_alone entry ∷ [] = search rules in
    let alone = opens-alone items document none in
    let here_is = ap next_outer (sym alone) in
    let stack_is = opens-alone items after none ∙ ap (λ o. after ∷ others_outer o) (sym alone) in
    rw (← c.self.view_is) (on_answer _ _ _ _ (λ after_is columns_is definitions_is.
    passed_leaf-by name pass entry document after c.follow_leaf-in-None.new.ended.columns once
    c.push_leaf.new.self c.follow_leaf-in-None.new.ended.definitions.items _ c.requires
    entry_is refl twice_is here_is stack_is columns_is definitions_is after_is)
    c.follow_leaf-in-None.result c.follow_leaf-in-None.ensures.here
    c.follow_leaf-in-None.ensures.columns c.follow_leaf-in-None.ensures.definitions)
