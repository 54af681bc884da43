-- What is passed may be in a break, and its marks are counted.
use Rattle.std.proofs.Common.{◌≡◌, ◌≤◌, ◌+◌, ◌==◌, drop}
use Rattle.std.specs.List.{list_all, count_by}
use Rattle.md_blocks.specs.Leaves.{may_be_in_break}
use Rattle.md_blocks.proofs.breaks.Breaks.begins_at.Given as goal

abbrev pub invariant-loop-at : goal.invariant-loop-at
invariant-loop-at l =
    (l.count ≤ l.at)
    × (list_all (may_be_in_break l.mark) (drop l.from l.line)
    ≡ list_all (may_be_in_break l.mark) (drop l.at l.line))
    × (count_by (λ byte. byte == l.mark) (drop l.from l.line)
    ≡ l.count + count_by (λ byte. byte == l.mark) (drop l.at l.line))
