-- What is left ends alike.
use Rattle.md_lines.specs.Reading.{ReadSame, text_from}
use Rattle.md_lines.specs.Texts.{size}
use Rattle.md_lines.proofs.TagLemmas.{EndsAlike}
use Rattle.md_lines.proofs.tag.skip_opening.Given as goal

abbrev pub invariant-attributes : goal.invariant-attributes
invariant-attributes l = record {
  alike : EndsAlike (text_from l.fn.cursor) (text_from l.cursor);
  same : ReadSame l.fn.cursor l.cursor;
}

abbrev pub decreases-attributes : goal.decreases-attributes
decreases-attributes l = size (text_from l.cursor)
