-- `reads` requires that some node is entered at the index: an ATX heading, as `enters` has found.
-- The search alone doesn't choose the name.
use Rattle.std.proofs.Common.{rules}
use Rattle.md_base.specs.declared.event.Name.TheVariants.{HeadingAtx}
use Rattle.md_cases.proofs.parts.trees.heading_reads.Goals as goal

pub reads-requires : goal.reads-requires
reads-requires c = (HeadingAtx, search rules)
