-- A valid part continues the text before it, and so do the bytes that are read one by one.
use Rattle.std.proofs.Common.{arith, rules}
use Rattle.md_tree.proofs.TextRuns.{IsUtf8-on}
use Rattle.md_tree.proofs.texts.parts.text_end_by_parts.Goals as goal

pub loop-at-preserved : goal.loop-at-preserved
loop-at-preserved c =
    let kept = c.loop-at.invariant in
    let part = c.part_end-end.ensures in (
      omega (arith, kept.0, part.0),
      part.1,
      IsUtf8-on c.args.bytes.now c.args.start c.loop-at.at _ kept.0 (omega (arith, part.0)) kept.2
          (c.is_text.ensures c.if-not-is_text.false),
      search rules,
      search rules,
    )

pub returns : goal.returns
returns c =
    let kept = c.loop-at.invariant in
    let last = c.text_end_before.ensures in (
      omega (arith, kept.0, last.0),
      last.1,
      IsUtf8-on c.args.bytes.now c.args.start c.loop-at.at _ kept.0 last.0 kept.2 last.2,
    )
