-- The end of the line after the title.
use Rattle.md_lines.specs.LinkParts.{title_at}
use Rattle.md_lines.specs.Reading.{text_from}
use Rattle.md_blocks.proofs.LinkLemmas.{ended, not_ended}
use Rattle.md_blocks.proofs.definition.read_last_title.Goals as goal

pub returns-then-ends_line-clause-found : goal.returns-then-ends_line-clause-found
returns-then-ends_line-clause-found c text =
    ended text (title_at (text_from c.args.cursor.now)) _ _ c.in-Some.ensures.rest
    (c.ends_line.ensures.found c.if-ends_line.true)

pub returns-else-ends_line-clause-none : goal.returns-else-ends_line-clause-none
returns-else-ends_line-clause-none c text =
    not_ended text (title_at (text_from c.args.cursor.now)) _ c.in-Some.ensures.rest
    (c.ends_line.ensures.none c.if-ends_line.false)
