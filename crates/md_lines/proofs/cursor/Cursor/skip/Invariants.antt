-- What is skipped is of the class, and what else is of it comes next.
use Rattle.std.proofs.Common.{◌≡◌, ◌+◌, ◌-◌, ◌≤◌, ◌<◌, drop}
use Rattle.std.specs.List.{prefix_len}
use Rattle.md_lines.specs.Classes.{is_in}
use Rattle.md_lines.proofs.cursor.Cursor.skip.Given as goal

abbrev pub invariant-loop-at : goal.invariant-loop-at
invariant-loop-at l =
    (l.self.at ≤ l.at) × (l.self.at < l.at → l.at ≤ l.self.end)
    × (l.self.at + prefix_len (is_in l.class) (drop l.self.at l.self.bytes.now)
    ≡ l.at + prefix_len (is_in l.class) (drop l.at l.self.bytes.now))

abbrev pub decreases-loop-at : goal.decreases-loop-at
decreases-loop-at l = l.self.end - l.at
