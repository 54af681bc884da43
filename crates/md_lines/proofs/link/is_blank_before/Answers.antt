-- All are blank just if none of them was left.
use Rattle.std.proofs.Common.{arith}
use Rattle.md_lines.specs.Lines.{is_blank}
use Rattle.md_lines.proofs.Parts.{all_trimmed}
use Rattle.md_lines.proofs.link.is_blank_before.Goals as goal

pub returns : goal.returns
returns c =
    all_trimmed is_blank c.args.text.now c.args.count c.trim_start.result c.requires
    (c.trim_start.ensures.within (omega arith)) c.trim_start.ensures.none_skipped
    c.trim_start.ensures.first
