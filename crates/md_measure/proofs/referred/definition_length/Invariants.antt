-- In each iteration, what was counted and what the rest before the definition gives are what all
-- events before it give; no more nodes are open than events were visited.
use Rattle.std.proofs.Common.{◌≡◌, ◌+◌, ◌-◌, ◌^◌, ◌≤◌, length}
use Rattle.md_length.specs.Work.{before_definition, read_length}
use Rattle.md_length.proofs.Lengths.{read_from}
use Rattle.md_measure.specs.Counting.{capped}
use Rattle.md_measure.proofs.referred.definition_length.Given as goal

abbrev pub invariant-loop-event : goal.invariant-loop-event
invariant-loop-event l = record {
  read : capped (l.progress.length
      + read_from l.progress.index l.progress.depth (before_definition l.rest))
      ≡ capped (read_length (before_definition l.events));
  counted : l.count + length (before_definition l.rest) ≡ length (before_definition l.events);
  fits : l.progress.length ≤ 2 ^ 128 - 1;
  few_open : l.progress.depth + length l.rest ≤ length l.events;
  few : l.count + length l.rest ≤ length l.events;
}

abbrev pub decreases-loop-event : goal.decreases-loop-event
decreases-loop-event l = length l.rest
