-- What is skipped is blank, and what else is blank comes next.
use Rattle.std.proofs.Common.{◌≡◌, ◌+◌, ◌-◌, ◌≤◌, drop}
use Rattle.std.specs.List.{prefix_len}
use Rattle.md_lines.specs.Lines.{is_blank}
use Rattle.md_lines.proofs.trim.trim_start.Given as goal

abbrev pub invariant-loop-at : goal.invariant-loop-at
invariant-loop-at l =
    (l.start ≤ l.at) × (l.start ≤ l.end → l.at ≤ l.end)
    × (l.start + prefix_len is_blank (drop l.start l.bytes)
    ≡ l.at + prefix_len is_blank (drop l.at l.bytes))

abbrev pub decreases-loop-at : goal.decreases-loop-at
decreases-loop-at l = l.end - l.at
