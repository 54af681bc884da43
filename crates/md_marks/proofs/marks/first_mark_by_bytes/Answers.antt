use Rattle.std.proofs.Common.{length, arith, sym}
use Rattle.md_marks.proofs.MarkBits.{passed-one}
use Rattle.md_marks.proofs.marks.first_mark_by_bytes.Goals as goal

pub loop-at-preserved : goal.loop-at-preserved
loop-at-preserved c =
    let before = c.loop-at.invariant in (
      omega (arith, before.0),
      omega (arith, c.loop-at-test.true),
      passed-one c.args.bytes.now c.args.from c.loop-at.at (length c.args.bytes.now)
          (sym c.if-not-begins_mark.ensures) before.2,
    )
