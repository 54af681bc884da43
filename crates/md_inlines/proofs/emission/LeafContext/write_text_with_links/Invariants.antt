use Rattle.std.proofs.Common.{length, ◌-◌}
use Rattle.md_inlines.proofs.emission.LeafContext.write_text_with_links.Given as goal

abbrev pub decreases-loop-at : goal.decreases-loop-at
decreases-loop-at l = length l.text - l.at
