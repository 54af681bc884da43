-- The first attribute is such an address, so the link gets no `rel`.
use Rattle.std.proofs.Common.{sym, ◌∙◌}
use Rattle.md_page.proofs.Nearby.{stays-within, leads-nowhere}
use Rattle.md_page.proofs.scan.stays.Goals as goal

pub returns-then-stays_within : goal.returns-then-stays_within
returns-then-stays_within c = λ is. stays-within c.args.tag.now (sym c.stays_within.ensures ∙ is)

pub returns-else-stays_within : goal.returns-else-stays_within
returns-else-stays_within c =
    λ is. leads-nowhere c.args.tag.now (sym c.starts_with.ensures.value ∙ is)
