-- What is written, and what is left before the other place.
use Rattle.std.proofs.Common.{◌≡◌, ◌++◌, length}
use Rattle.std.specs.List.{join_with_byte}
use Rattle.md_lines.specs.Reading.{lines_after, text_from}
use Rattle.md_lines.specs.Texts.{text_before}
use Rattle.md_blocks.proofs.label.label_bytes.Given as goal

abbrev pub invariant-lines : goal.invariant-lines
invariant-lines l =
    l.label.items ++ join_with_byte 10 (text_before (text_from l.cursor) (text_from l.to))
    ≡ join_with_byte 10 (text_before (text_from l.from) (text_from l.to))

abbrev pub decreases-lines : goal.decreases-lines
decreases-lines l = length (lines_after l.cursor)
