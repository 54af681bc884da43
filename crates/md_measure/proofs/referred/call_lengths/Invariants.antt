-- Before each event, the lengths so far and those of the rest are the lengths of all calls; no more
-- calls are open than events were read.
use Rattle.std.proofs.Common.{◌≡◌, ◌+◌, ◌-◌, ◌^◌, ◌≤◌, length}
use Rattle.md_length.specs.Work.{covered_from, covered}
use Rattle.md_length.specs.Reuse.{is_call}
use Rattle.md_measure.specs.Counting.{capped}
use Rattle.md_measure.proofs.referred.call_lengths.Given as goal

abbrev pub invariant-loop-event : goal.invariant-loop-event
invariant-loop-event l = record {
  called : capped (l.progress.length
      + covered_from is_call l.progress.index l.progress.depth l.rest)
      ≡ capped (covered is_call l.events);
  fits : l.progress.length ≤ 2 ^ 128 - 1;
  few_open : l.progress.depth + length l.rest ≤ length l.events;
}

abbrev pub decreases-loop-event : goal.decreases-loop-event
decreases-loop-event l = length l.rest
