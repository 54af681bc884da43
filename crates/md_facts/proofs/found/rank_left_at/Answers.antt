-- At the entry the same is noticed.
use Rattle.md_base.specs.declared.event.Name.TheVariants.{HeadingAtx}
use Rattle.md_facts.proofs.found.rank_left_at.Goals as goal

pub entry_of-requires : goal.entry_of-requires
entry_of-requires c = (HeadingAtx, c.requires)

pub rank_at-requires : goal.rank_at-requires
rank_at-requires c = c.entry_of.ensures.enters HeadingAtx c.requires

pub returns : goal.returns
returns c = λ one there. c.rank_at.ensures one (c.entry_of.ensures.noticed one there)
