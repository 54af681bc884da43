-- What an ordered list reads is its number.
use Rattle.std.proofs.Common.{refl, sym, ap, ◌∙◌}
use Rattle.md_base.specs.declared.event.Name.TheVariants.{ListOrdered}
use Rattle.md_steps.specs.Run.{Noticed}
use Rattle.md_facts.proofs.Noticed.{entered}
use Rattle.md_facts.proofs.FoundLemmas.{number-same}
use Rattle.md_facts.proofs.found.number_at.Goals as goal

pub returns : goal.returns
returns c = λ one there.
    let seen = entered c.args.checked.now c.args.index ListOrdered one c.requires there in
    c.reads.ensures.reads ListOrdered seen.node.children c.requires refl seen.entered
    ∙ number-same seen.node.children ∙ ap (λ (n : Noticed). n.facts.number) (sym seen.is)
