-- The text left, by the place.
use Rattle.std.proofs.Common.{ap}
use Rattle.md_lines.specs.Escapes.{in_line}
use Rattle.md_lines.specs.Reading.{lines_after, text_from}
use Rattle.md_lines.proofs.Reading.{none, after_byte, after_ending}
use Rattle.md_lines.proofs.cursor.Cursor.advance.Goals as goal

pub returns-then-self-clause-text : goal.returns-then-self-clause-text
returns-then-self-clause-text c =
    let self = c.args.self.now in
    after_byte self.bytes.now self.at self.end (lines_after self) c.if-self.true self.within

pub returns-else-self-clause-text : goal.returns-else-self-clause-text
returns-else-self-clause-text c =
    let self = c.args.self.now in
    after_ending (in_line self) (lines_after self) _ _ c.next_line.result
    (none self.bytes.now self.at self.end c.if-self.false) c.next_line.ensures.text
    c.next_line.ensures.last (λ e. ap text_from (c.next_line.ensures.stays e))
