-- In a document of the grammar the heading's mark lies in the bytes.
use Rattle.std.proofs.Common.{Some, None, refl, sym, ap, ◌∙◌}
use Rattle.md_base.specs.declared.event.Name.TheVariants.{HeadingAtx}
use Rattle.md_meaning.specs.Places.{length_of}
use Rattle.md_steps.specs.Run.{Noticed}
use Rattle.md_facts.proofs.Noticed.{entered}
use Rattle.md_facts.proofs.FoundLemmas.{rank-found}
use Rattle.md_facts.proofs.found.rank_at.Goals as goal

pub returns-in-Some : goal.returns-in-Some
returns-in-Some c = λ one there.
    let seen = entered c.args.checked.now c.args.index HeadingAtx one c.requires there in
    c.length_of.ensures ∙ ap (λ bytes. length_of bytes c.in-Some.place) c.bytes.ensures
    ∙ rank-found c.args.checked.now seen.document c.args.index seen.exit seen.node
    c.grammatical.ensures seen.flat (Some c.in-Some.place)
    (c.in-Some.ensures.reads HeadingAtx seen.node.children c.requires refl seen.entered)
    ∙ ap (λ (n : Noticed). n.facts.rank) (sym seen.is)

pub returns-in-None : goal.returns-in-None
returns-in-None c = λ one there.
    let seen = entered c.args.checked.now c.args.index HeadingAtx one c.requires there in
    rank-found c.args.checked.now seen.document c.args.index seen.exit seen.node
    c.grammatical.ensures seen.flat None
    (c.in-None.ensures.reads HeadingAtx seen.node.children c.requires refl seen.entered)
    ∙ ap (λ (n : Noticed). n.facts.rank) (sym seen.is)
