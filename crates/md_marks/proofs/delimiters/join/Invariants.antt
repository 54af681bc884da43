-- What is left to be joined gives the same tokens.
use Rattle.std.proofs.Common.{◌≡◌, ◌≤◌, ◌-◌, suc}
use Rattle.md_marks.specs.Pairs.{absorbed}
use Rattle.md_marks.proofs.delimiters.join.Given as goal

abbrev pub invariant-tokens : goal.invariant-tokens
invariant-tokens l =
    (absorbed (l.end - l.next) l.next l.tokens.items
    ≡ absorbed ((l.end - l.start) - 1) (suc l.start) l.initial.tokens.items) × (l.next ≤ l.end)

abbrev pub decreases-tokens : goal.decreases-tokens
decreases-tokens l = l.end - l.next
