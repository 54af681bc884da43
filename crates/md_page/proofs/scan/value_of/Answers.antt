-- The name is the target.
use Rattle.std.proofs.Common.{sym, ◌∙◌}
use Rattle.md_page.proofs.Parts.{value-found}
use Rattle.md_page.proofs.scan.value_of.Goals as goal

pub returns-then-eq : goal.returns-then-eq
returns-then-eq c =
    sym (value-found c.args.key.now c.loop-name.rest.now c.in_ok-value.more.now
    c.in-Some.ensures.0 c.in_ok-value.ensures.0 (sym c.eq.ensures ∙ c.if-eq.true))
    ∙ c.loop-name.invariant
