-- What is passed are blank lines.
use Rattle.std.proofs.Common.{◌≡◌, ◌≤◌, ◌+◌, length, take}
use Rattle.std.specs.List.{suffix_len}
use Rattle.md_blocks.specs.Marks.{is_blank_text}
use Rattle.md_blocks.specs.Tapes.{text_of_line}
use Rattle.md_blocks.proofs.closing.without_blank_end.Given as goal

abbrev pub invariant-loop-end : goal.invariant-loop-end
invariant-loop-end l =
    (l.end ≤ length l.lines)
    × (l.end + suffix_len (λ line. is_blank_text (text_of_line l.bytes line)) l.lines
    ≡ length l.lines
    + suffix_len (λ line. is_blank_text (text_of_line l.bytes line)) (take l.end l.lines))

abbrev pub decreases-loop-end : goal.decreases-loop-end
decreases-loop-end l = l.end
