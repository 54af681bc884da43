-- In each iteration, the count so far and that of the rest are the whole count.
use Rattle.std.proofs.Common.{◌≡◌, ◌+◌, ◌-◌, ◌^◌, ◌≤◌, length}
use Rattle.std.specs.Prelude.{drop}
use Rattle.md_base.specs.Tree.{Forest, flatten}
use Rattle.md_tree.specs.Mentions.{mentions_of}
use Rattle.md_tree.specs.Numbers.{definition_for}
use Rattle.md_length.specs.Reuse.{definition_lengths, resolved_lengths, referred}
use Rattle.md_measure.specs.Counting.{capped}
use Rattle.md_measure.proofs.referred.referred_length.Given as goal

abbrev pub invariant-loop-event : goal.invariant-loop-event
invariant-loop-event l = record {
  left : drop l.index l.checked.events ≡ l.rest;
  referred : (document : Forest) → flatten document ≡ l.checked.events →
      capped (l.referred + resolved_lengths (definition_lengths document)
      (definition_for l.checked.bytes (mentions_of document))
      (drop l.index (mentions_of document)))
      ≡ capped (referred l.checked.bytes document);
  referred_fits : l.referred ≤ 2 ^ 128 - 1;
  gone : l.index + length l.rest ≡ length l.checked.events;
}

abbrev pub decreases-loop-event : goal.decreases-loop-event
decreases-loop-event l = length l.rest
