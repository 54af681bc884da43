-- What is skipped are spaces, tabs and line endings, and what is left in the line begins with none.
use Rattle.std.proofs.Common.{◌≡◌, ◌≤◌}
use Rattle.std.specs.Prelude.{◌||◌}
use Rattle.std.specs.List.{prefix_len}
use Rattle.md_lines.specs.Lines.{is_blank}
use Rattle.md_lines.specs.Escapes.{in_line}
use Rattle.md_lines.specs.Reading.{left, text_from, ReadSame}
use Rattle.md_lines.specs.Texts.{after_spaces, begins_with_space}
use Rattle.md_lines.proofs.cursor.Cursor.skip_spaces.Given as goal

abbrev pub invariant-lines : goal.invariant-lines
invariant-lines l = record {
  forward : left l.self ≤ left l.initial.self;
  after : after_spaces (text_from l.self) ≡ after_spaces (text_from l.fn.self);
  any : (l.has_any || begins_with_space (text_from l.self)) ≡ begins_with_space (text_from l.fn.self);
  unindented : prefix_len is_blank (in_line l.self) ≡ 0;
  same : ReadSame l.fn.self l.self;
}

abbrev pub decreases-lines : goal.decreases-lines
decreases-lines l = left l.self
