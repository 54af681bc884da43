-- What is passed belongs to the destination, which ends where what is left of it ends.
use Rattle.std.proofs.Common.{◌≡◌, ◌-◌, ◌≤◌, ◌<◌, drop, take, false}
use Rattle.md_lines.specs.LinkParts.{bare_end}
use Rattle.md_lines.proofs.link.bare_end.Given as goal

abbrev pub invariant-loop-at : goal.invariant-loop-at
invariant-loop-at l = record {
  shallow : l.opened ≤ 32;
  after : l.from ≤ l.at;
  within : l.from < l.at → l.at ≤ l.end;
  rest : bare_end l.from 0 false (drop l.from (take l.end l.bytes))
      ≡ bare_end l.at l.opened false (drop l.at (take l.end l.bytes));
}

abbrev pub decreases-loop-at : goal.decreases-loop-at
decreases-loop-at l = l.end - l.at
