-- What is left has the same end.
use Rattle.std.proofs.Common.{◌≡◌}
use Rattle.md_lines.specs.Reading.{ReadSame, text_from}
use Rattle.md_lines.specs.Tags.{after_quoted}
use Rattle.md_lines.specs.Texts.{size}
use Rattle.md_lines.proofs.tag.skip_quoted.Given as goal

abbrev pub invariant-lines : goal.invariant-lines
invariant-lines l = record {
  end : after_quoted l.quote (text_from l.fn.cursor) ≡ after_quoted l.quote (text_from l.cursor);
  same : ReadSame l.fn.cursor l.cursor;
}

abbrev pub decreases-lines : goal.decreases-lines
decreases-lines l = size (text_from l.cursor)
