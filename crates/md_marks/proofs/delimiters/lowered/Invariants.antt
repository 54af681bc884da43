-- The numbers before this one are lowered, the others as they were.
use Rattle.std.proofs.Common.{◌≡◌, ◌≤◌, ◌<◌, ◌-◌, ℕ, get_or, length}
use Rattle.md_marks.proofs.delimiters.lowered.Given as goal

abbrev pub invariant-kinds : goal.invariant-kinds
invariant-kinds l = record {
  count : length l.lowered ≡ 14;
  within : (k : ℕ) → k < l.kind → get_or l.lowered k 0 ≤ l.most;
  less : (k : ℕ) → get_or l.lowered k 0 ≤ get_or l.bottoms k 0;
}

abbrev pub decreases-kinds : goal.decreases-kinds
decreases-kinds l = 14 - l.kind
