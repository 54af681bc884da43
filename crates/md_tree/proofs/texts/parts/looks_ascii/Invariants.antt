-- Each step moves forward.
use Rattle.std.proofs.Common.{◌-◌, length}
use Rattle.md_tree.proofs.texts.parts.looks_ascii.Given as goal

abbrev pub decreases-loop-at : goal.decreases-loop-at
decreases-loop-at l = length l.bytes - l.at
