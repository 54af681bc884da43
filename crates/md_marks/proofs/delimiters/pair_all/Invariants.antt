-- The runs that are left give the same tokens.
use Rattle.std.proofs.Common.{◌≡◌, ◌-◌, drop, length, reverse}
use Rattle.md_marks.specs.Openers.{AreBottoms, AreOpen}
use Rattle.md_marks.specs.Pairs.{pairs_after, with_pairs}
use Rattle.md_marks.proofs.delimiters.pair_all.Given as goal

abbrev pub invariant-runs : goal.invariant-runs
invariant-runs l = record {
  same : with_pairs (pairs_after (reverse l.openers.items) (drop l.at l.list.items)) l.tokens.items
      ≡ with_pairs (pairs_after (reverse l.initial.openers.items) (drop l.initial.at l.list.items))
      l.initial.tokens.items;
  opens : AreOpen l.openers.items;
  bottoms : AreBottoms l.bottoms l.openers.items;
}

abbrev pub decreases-runs : goal.decreases-runs
decreases-runs l = length l.list.items - l.at
