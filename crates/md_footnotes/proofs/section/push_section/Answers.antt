-- If there is a call, the opening, the items and the end, laid out in sequence, are the section.
-- The search alone doesn't lay out pieces in parts.
use Rattle.std.proofs.Common.{arith}
use Rattle.md_steps.proofs.Laid.{laid-append}
use Rattle.md_footnotes.proofs.section.push_section.Goals as goal

pub returns : goal.returns
returns c = grind (arith, laid-append)
