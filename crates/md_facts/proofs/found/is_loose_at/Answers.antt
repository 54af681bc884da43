-- The list is loose as its children say, which are those of the node that is noticed.
use Rattle.std.proofs.Common.{sym, ap, ◌∙◌}
use Rattle.md_steps.specs.Run.{Noticed}
use Rattle.md_facts.proofs.Noticed.{entered}
use Rattle.md_facts.proofs.FoundLemmas.{enters-list}
use Rattle.md_facts.proofs.found.is_loose_at.Goals as goal

pub returns : goal.returns
returns c = λ one there.
    let list = enters-list c.args.checked.now.events c.args.index c.requires in
    let seen = entered c.args.checked.now c.args.index list.0 one list.1 there in
    c.list_loose.ensures.loose seen.node.children seen.entered
    ∙ ap (λ (n : Noticed). n.facts.loose) (sym seen.is)
