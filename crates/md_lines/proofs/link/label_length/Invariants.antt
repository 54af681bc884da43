-- What is passed is no bracket, or escaped.
use Rattle.std.proofs.Common.{◌≡◌, ◌+◌, ◌-◌, ◌≤◌, drop, length, suc}
use Rattle.md_lines.specs.Escapes.{before_unescaped}
use Rattle.md_lines.specs.LinkParts.{is_bracket}
use Rattle.md_lines.proofs.link.label_length.Given as goal

abbrev pub invariant-loop-length : goal.invariant-loop-length
invariant-loop-length l = record {
  within : l.length ≤ length l.text;
  short : l.length ≤ suc l.most;
  before : before_unescaped is_bracket l.text
      ≡ l.length + before_unescaped is_bracket (drop l.length l.text);
}

abbrev pub decreases-loop-length : goal.decreases-loop-length
decreases-loop-length l = length l.text - l.length
