-- The alignments are those of the children of the node that is noticed.
use Rattle.std.proofs.Common.{sym, ap, ◌∙◌}
use Rattle.md_base.specs.declared.event.Name.TheVariants.{GfmTable}
use Rattle.md_steps.specs.Run.{Noticed}
use Rattle.md_facts.proofs.Noticed.{entered}
use Rattle.md_printer.proofs.columns.columns_at.Goals as goal

pub returns : goal.returns
returns c = λ one there.
    let seen = entered c.args.checked.now c.args.index GfmTable one c.requires there in
    c.columns.ensures.aligned seen.node.children seen.entered
    ∙ ap (λ (n : Noticed). n.facts.columns) (sym seen.is)
