-- What is passed has single spaces alone.
use Rattle.std.proofs.Common.{◌-◌, ◌<◌, ◌≤◌, ℕ}
use Rattle.md_base.specs.Collapsed.{IsSingleAt}
use Rattle.md_base.proofs.collapsed.has_single_blocks.Given as goal

abbrev pub invariant-loop-at : goal.invariant-loop-at
invariant-loop-at l = (l.at ≤ l.pairs) × ((k : ℕ) → k < l.at → IsSingleAt l.text k)

abbrev pub decreases-loop-at : goal.decreases-loop-at
decreases-loop-at l = l.pairs - l.at
