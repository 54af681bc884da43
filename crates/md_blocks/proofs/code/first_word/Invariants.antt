-- What is passed belongs to the word.
use Rattle.std.proofs.Common.{◌≡◌, ◌≤◌, ◌+◌, ◌-◌, length, drop}
use Rattle.md_blocks.specs.Leaves.{word_length}
use Rattle.md_blocks.proofs.code.first_word.Given as goal

abbrev pub invariant-loop-end : goal.invariant-loop-end
invariant-loop-end l =
    (l.start ≤ l.end)
    × (l.start + word_length (drop l.start l.line) ≡ l.end + word_length (drop l.end l.line))

abbrev pub decreases-loop-end : goal.decreases-loop-end
decreases-loop-end l = length l.line - l.end
