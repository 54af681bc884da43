-- The text left, by the place.
use Rattle.md_lines.proofs.Reading.{next_line}
use Rattle.md_lines.proofs.cursor.Cursor.next_line.Goals as goal

pub returns-clause-text : goal.returns-clause-text
returns-clause-text c _ =
    let self = c.args.self.now in
    next_line self.bytes.now self.lines.now self.line _ _ c.in-Some.ensures.lookup.3.0
    c.in-Some.ensures.lookup.1
    c.min-self.ensures
