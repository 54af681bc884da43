-- What is read of the node is its label.
use Rattle.std.proofs.Common.{arith, ◌≡◌, true, sym, ap, ◌∙◌}
use Rattle.md_base.specs.declared.event.Name.{Name}
use Rattle.md_meaning.specs.Places.{identifier_at}
use Rattle.md_tree.specs.Reads.{is_reader}
use Rattle.md_steps.specs.Run.{Noticed}
use Rattle.md_facts.specs.NodeFacts.{is_labelled}
use Rattle.md_facts.proofs.Noticed.{entered}
use Rattle.md_facts.proofs.Labelled.{labelled}
use Rattle.md_facts.proofs.identifiers.label_read_at.Goals as goal

reader : (name : Name) → is_labelled name ≡ true → is_reader name ≡ true
reader name h = grind arith

pub returns : goal.returns
returns c = λ one there.
    let given = c.args.checked.now in
    let name = c.requires.0 in
    let seen = entered given c.args.index name one c.requires.1 there in
    let found = seen.node.children in
    ap (λ (n : Noticed). n.facts.identifier) seen.is
    ∙ labelled given c.args.index name found c.grammatical.ensures c.requires.1
    seen.entered c.requires.2
    ∙ ap (identifier_at given.bytes)
    (sym (c.reads.ensures.reads name found c.requires.1 (reader name c.requires.2) seen.entered))
