-- What is passed is in the label, of 998 bytes at most.
use Rattle.std.proofs.Common.{◌≡◌, ◌≤◌, ◌+◌, ◌-◌, length, drop}
use Rattle.std.specs.List.{prefix_len}
use Rattle.md_blocks.specs.OwnBlocks.{is_in_label}
use Rattle.md_blocks.proofs.marker.label_end.Given as goal

abbrev pub invariant-loop-end : goal.invariant-loop-end
invariant-loop-end l =
    (l.end ≤ length l.text) × (l.end ≤ 998)
    × (prefix_len is_in_label l.text ≡ l.end + prefix_len is_in_label (drop l.end l.text))

abbrev pub decreases-loop-end : goal.decreases-loop-end
decreases-loop-end l = length l.text - l.end
