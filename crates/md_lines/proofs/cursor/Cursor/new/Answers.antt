-- The text of the line, and those of the lines after it.
use Rattle.md_lines.proofs.Reading.{begun}
use Rattle.md_lines.proofs.cursor.Cursor.new.Goals as goal

pub returns-clause-text : goal.returns-clause-text
returns-clause-text c =
    begun c.args.bytes.now c.args.lines.now c.args.place.line c.min-line.result c.args.place.at
    c.end_of.result c.min-line.ensures c.end_of.ensures.some
