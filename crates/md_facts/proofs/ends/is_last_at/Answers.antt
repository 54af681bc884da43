-- Only the exit of the document's last node is the last event.
use Rattle.std.proofs.Common.{◌≡◌, ◌<◌, ◌+◌, suc, ◌==◌, length, sym, ap, ◌∙◌, subst, arith}
use Rattle.md_facts.proofs.EndLemmas.{exit-inside, last-noticed}
use Rattle.md_facts.proofs.ends.is_last_at.Goals as goal

pub overflow_add-result : goal.overflow_add-result
overflow_add-result c =
    let inside : c.args.index < length c.events-count.result.now =
    subst (λ es. c.args.index < length es) (sym c.events-count.ensures.events)
    (exit-inside c.args.checked.now c.args.index c.requires.0 c.requires.1) in
    omega arith

pub returns : goal.returns
returns c = λ one there.
    let more : c.args.index + 1 ≡ suc c.args.index = omega arith in
    ap (λ n. n == length c.events-count.result.now) more
    ∙ ap (λ es. suc c.args.index == length es) c.events-count.ensures.events
    ∙ last-noticed c.args.checked.now c.args.index c.requires.0 one c.requires.1 there
