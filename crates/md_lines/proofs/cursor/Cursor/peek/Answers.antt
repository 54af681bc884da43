-- The text left, by the place.
use Rattle.std.proofs.Common.{arith, suc}
use Rattle.md_lines.specs.Reading.{line_text, lines_after}
use Rattle.md_lines.specs.Escapes.{in_line}
use Rattle.md_lines.proofs.Reading.{none, has_more, ending_next}
use Rattle.md_lines.proofs.cursor.Cursor.peek.Goals as goal

pub returns-then-self-2-clause-next : goal.returns-then-self-2-clause-next
returns-then-self-2-clause-next c =
    let self = c.args.self.now in
    ending_next (in_line self) (lines_after self) (none self.bytes.now self.at self.end c.if-self.false)
    (has_more (line_text self.bytes.now) self.lines.now (suc self.line) (omega arith))
