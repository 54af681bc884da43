-- Whether the label is valid, and what follows it, depends on what is left and on what was read.
use Rattle.std.proofs.Common.{◌≡◌, ◌-◌, ◌≤◌, true}
use Rattle.std.specs.Prelude.{option_map}
use Rattle.md_lines.specs.LinkParts.{is_bracket}
use Rattle.md_lines.specs.Reading.{text_from, ReadSame}
use Rattle.md_lines.specs.Texts.{Part, until}
use Rattle.md_lines.proofs.Parts.{label_ok}
use Rattle.md_lines.proofs.link.read_label.Given as goal

abbrev pub invariant-loop-count : goal.invariant-loop-count
invariant-loop-count l = record {
  few : l.count ≤ 1000;
  valid : label_ok 0 true (until is_bracket (text_from l.fn.cursor))
      ≡ label_ok l.count l.is_blank (until is_bracket (text_from l.cursor));
  rest : option_map (λ (part : Part). part.rest) (until is_bracket (text_from l.fn.cursor))
      ≡ option_map (λ (part : Part). part.rest) (until is_bracket (text_from l.cursor));
  same : ReadSame l.fn.cursor l.cursor;
}

abbrev pub decreases-loop-count : goal.decreases-loop-count
decreases-loop-count l = 1000 - l.count
