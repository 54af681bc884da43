-- What is passed are number signs.
use Rattle.std.proofs.Common.{◌≡◌, ◌≤◌, ◌+◌, ◌==◌, length, take}
use Rattle.std.specs.List.{suffix_len}
use Rattle.md_blocks.proofs.marker.without_number_signs.Given as goal

abbrev pub invariant-loop-end : goal.invariant-loop-end
invariant-loop-end l =
    (l.end ≤ length l.text)
    × (l.end + suffix_len (λ byte. byte == 35) l.text
    ≡ length l.text + suffix_len (λ byte. byte == 35) (take l.end l.text))

abbrev pub decreases-loop-end : goal.decreases-loop-end
decreases-loop-end l = l.end
