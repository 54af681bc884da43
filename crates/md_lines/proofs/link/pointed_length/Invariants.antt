-- What is passed is no such byte, or escaped.
use Rattle.std.proofs.Common.{◌≡◌, ◌+◌, ◌-◌, ◌≤◌, drop, length}
use Rattle.md_lines.specs.Escapes.{before_unescaped, is_angle}
use Rattle.md_lines.proofs.link.pointed_length.Given as goal

abbrev pub invariant-loop-at : goal.invariant-loop-at
invariant-loop-at l =
    (l.at ≤ length l.text) × (before_unescaped is_angle l.text
    ≡ l.at + before_unescaped is_angle (drop l.at l.text))

abbrev pub decreases-loop-at : goal.decreases-loop-at
decreases-loop-at l = length l.text - l.at
