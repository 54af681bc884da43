-- Where the event after an entry exits, it exits the same node.
use Rattle.std.proofs.Common.{◌<◌, ◌+◌, suc, length, sym, ap, ◌∙◌, subst}
use Rattle.std.specs.Prelude.{slice_get}
use Rattle.md_tree.specs.Grammar.{IsReadAs}
use Rattle.md_facts.proofs.EndLemmas.{entry-followed, leaf-exits, leaf-noticed}
use Rattle.md_facts.proofs.ends.is_leaf_among.Goals as goal

pub exits_next-requires : goal.exits_next-requires
exits_next-requires c =
    let checked = c.grammatical.ensures in
    subst (λ es. c.args.index + 1 < length es) (sym c.requires.among)
    (entry-followed c.args.checked.now checked.0 (IsReadAs.flattened checked.1) c.args.index
    c.requires.enters.0 c.requires.enters.1)

pub returns-clause-exits : goal.returns-clause-exits
returns-clause-exits c = λ yes name enters.
    let next = c.exits_next.ensures yes in
    let checked = c.grammatical.ensures in
    leaf-exits c.args.checked.now checked.0 (IsReadAs.flattened checked.1)
    c.args.index name enters next.0
    (ap (λ es. slice_get es (suc c.args.index)) (sym c.requires.among) ∙ next.1) next.2

pub returns-clause-noticed : goal.returns-clause-noticed
returns-clause-noticed c = λ yes one there.
    let next = c.exits_next.ensures yes in
    leaf-noticed c.args.checked.now c.args.index c.requires.enters.0 c.requires.enters.1 next.0
    (ap (λ es. slice_get es (suc c.args.index)) (sym c.requires.among) ∙ next.1) next.2 one there
