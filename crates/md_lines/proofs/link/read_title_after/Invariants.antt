-- No line so far has what ends the title.
use Rattle.std.proofs.Common.{◌≡◌}
use Rattle.std.specs.Prelude.{option_map}
use Rattle.md_lines.specs.LinkParts.{title_after}
use Rattle.md_lines.specs.Reading.{left, text_from, ReadSame}
use Rattle.md_lines.proofs.link.read_title_after.Given as goal

abbrev pub invariant-lines : goal.invariant-lines
invariant-lines l = record {
  rest : option_map (λ part. part.rest) (title_after l.mark l.close (text_from l.fn.cursor))
      ≡ option_map (λ part. part.rest) (title_after l.mark l.close (text_from l.cursor));
  same : ReadSame l.fn.cursor l.cursor;
}

abbrev pub decreases-lines : goal.decreases-lines
decreases-lines l = left l.cursor
