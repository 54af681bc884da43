-- What is passed are digits, nine at most.
use Rattle.std.proofs.Common.{◌≡◌, ◌≤◌, ◌+◌, ◌-◌, length, drop}
use Rattle.std.specs.List.{prefix_len}
use Rattle.md_blocks.specs.Marks.{is_digit}
use Rattle.md_blocks.proofs.marker.digits_end.Given as goal

abbrev pub invariant-loop-end : goal.invariant-loop-end
invariant-loop-end l =
    (l.at ≤ l.end) × (l.end ≤ l.at + 9)
    × (l.at + prefix_len is_digit (drop l.at l.line)
    ≡ l.end + prefix_len is_digit (drop l.end l.line))

abbrev pub decreases-loop-end : goal.decreases-loop-end
decreases-loop-end l = length l.line - l.end
