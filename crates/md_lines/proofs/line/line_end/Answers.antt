-- At the end of the bytes none was skipped, so none ends a line.
use Rattle.std.proofs.Common.{drop, inl, inr, arith}
use Rattle.std.proofs.Math.Nat.{eq-or-lt_of_le}
use Rattle.std.proofs.lemmas.List.{length-drop}
use Rattle.std.proofs.lemmas.List.Sums.{prefix_len-le-length}
use Rattle.md_lines.specs.Lines.{ends_no_line}
use Rattle.md_lines.proofs.line.line_end.Goals as goal

pub returns-clause-first : goal.returns-clause-first
returns-clause-first c within =
    let bytes = c.args.bytes.now in
    let from = c.args.from in
    elim (eq-or-lt_of_le (c.find.ensures.within within)) [
      | inl at_end ↦ omega (
        arith,
        at_end,
        within,
        c.find.ensures.none_skipped,
        prefix_len-le-length ends_no_line (drop from bytes),
        length-drop from bytes,
      )
      | inr before ↦ c.find.ensures.first before
    ]

pub returns-clause-beyond : goal.returns-clause-beyond
returns-clause-beyond c beyond =
    let bytes = c.args.bytes.now in
    let from = c.args.from in
    omega (
      arith,
      beyond,
      c.find.ensures.after,
      c.find.ensures.none_skipped,
      prefix_len-le-length ends_no_line (drop from bytes),
      length-drop from bytes,
    )
