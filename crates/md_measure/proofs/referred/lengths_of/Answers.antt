-- The definitions are those of the document, and each is entered at one of the events.
use Rattle.std.proofs.Common.{ℕ, List, map, ap, sym, ◌∙◌, subst}
use Rattle.std.specs.Prelude.{slice_index_or}
use Rattle.std.proofs.lemmas.List.{take_all}
use Rattle.md_base.specs.declared.event.Name.TheVariants.{Definition}
use Rattle.md_tree.specs.Texts.{EntersAt}
use Rattle.md_length.specs.Reuse.{definition_length}
use Rattle.md_measure.specs.Counting.{capped}
use Rattle.md_measure.proofs.Referring.{entered-within, lengths-capped}
use Rattle.md_measure.proofs.referred.lengths_of.Goals as goal

pub length_behind-requires : goal.length_behind-requires
length_behind-requires c =
    let entries : List ℕ = c.definitions-entry-items.result.now in
    let events = c.events-events.result.now in
    let place = c.loop-entry.entry-index in
    let entry = slice_index_or entries place 0 in
    entered-within events entry Definition
    (subst (λ es. EntersAt es entry Definition) (sym c.events-events.ensures.events)
    (c.definitions-entry-items.ensures.entered place 0 c.loop-entry-test.true))

pub returns : goal.returns
returns c = λ document flat.
    let entries : List ℕ = c.definitions-entry-items.result.now in
    let events = c.events-events.result.now in
    c.loop-entry.invariant
    ∙ ap (map (λ entry. capped (definition_length events entry)))
    (take_all c.loop-entry.entry-index entries c.loop-entry-test.false)
    ∙ ap (λ es. map (λ entry. capped (definition_length events entry)) es)
    (c.definitions-entry-items.ensures.definitions document flat)
    ∙ lengths-capped document events (flat ∙ sym c.events-events.ensures.events)
