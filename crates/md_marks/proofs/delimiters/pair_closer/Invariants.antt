-- What is left to pair gives the same.
use Rattle.md_marks.specs.Emphasis.{available}
use Rattle.md_marks.specs.Openers.{AreBottoms, AreOpen}
use Rattle.md_marks.proofs.PairLemmas.{LeadsTo}
use Rattle.md_marks.proofs.delimiters.pair_closer.Given as goal

abbrev pub invariant-pairs : goal.invariant-pairs
invariant-pairs l = record {
  same : LeadsTo l.openers.items l.closer l.tokens.items l.initial.openers.items l.initial.closer
      l.initial.tokens.items;
  opens : AreOpen l.openers.items;
  bottoms : AreBottoms l.bottoms l.openers.items;
}

abbrev pub decreases-pairs : goal.decreases-pairs
decreases-pairs l = available l.closer
