-- In each iteration, the appended text, followed by the rest from the last offset, is the whole.
use Rattle.std.proofs.Common.{◌≡◌, ◌++◌, length, string_bytes}
use Rattle.md_buffer.specs.Waiting.{merged, Fit}
use Rattle.md_buffer.proofs.heads.push_merged.Given as goal

abbrev pub invariant-loop-head : goal.invariant-loop-head
invariant-loop-head l = record {
  fit : Fit l.text l.heads (length l.text) l.done l.rest;
  whole :
      string_bytes l.out ++ merged l.text l.heads l.done l.rest
      ≡ string_bytes l.initial.out ++ merged l.text l.heads l.start l.waiting;
}

abbrev pub decreases-loop-head : goal.decreases-loop-head
decreases-loop-head l = length l.rest
