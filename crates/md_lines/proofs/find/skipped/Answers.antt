-- A step in which all bytes are skipped goes on by as many.
use Rattle.std.proofs.Common.{◌+◌, ◌≤◌, arith}
use Rattle.std.specs.List.{prefix_len}
use Rattle.std.proofs.lemmas.List.Sums.{prefix_len-le-length}
use Rattle.md_text.proofs.RunLemmas.{run_goes_on, prefix_len-drop}
use Rattle.md_lines.proofs.find.skipped.Goals as goal

pub loop-at-preserved : goal.loop-at-preserved
loop-at-preserved g c =
    let skips = g.S.Search.skips c.args.search in
    let bytes = c.args.bytes.now in
    let before : c.loop-at.at ≤ prefix_len skips bytes = omega (arith, c.loop-at.invariant.1) in
    let seen = run_goes_on skips bytes c.loop-at.at 16 c.run_in-run.result before
    c.run_in-run.ensures c.if-run-lt-LANES.false in (
      omega (arith, seen, prefix_len-le-length skips bytes),
      prefix_len-drop skips (c.loop-at.at + 16) bytes seen,
    )
