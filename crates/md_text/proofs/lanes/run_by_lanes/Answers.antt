-- Bytes that all pass are passed.
use Rattle.std.proofs.Common.{length, ◌-◌, arith}
use Rattle.std.proofs.lemmas.List.Sums.{prefix_len-le-length}
use Rattle.md_text.proofs.RunLemmas.{run_ends, run_goes_on, run_at_end}
use Rattle.md_text.proofs.lanes.run_by_lanes.Goals as goal

pub overflow_sub-bytes : goal.overflow_sub-bytes
overflow_sub-bytes g c =
    omega (
      arith,
      c.loop-at.invariant,
      prefix_len-le-length (g.T.ByteTest.passes c.args.test) c.args.bytes.now,
    )

pub returns-then-run : goal.returns-then-run
returns-then-run g c =
    run_ends (g.T.ByteTest.passes c.args.test) c.args.bytes.now c.loop-at.at g.row.N
    c.run_in-run.result c.loop-at.invariant c.run_in-run.ensures c.if-run.true

pub loop-at-preserved : goal.loop-at-preserved
loop-at-preserved g c =
    run_goes_on (g.T.ByteTest.passes c.args.test) c.args.bytes.now c.loop-at.at g.row.N
    c.run_in-run.result c.loop-at.invariant c.run_in-run.ensures c.if-run.false

pub returns : goal.returns
returns g c =
    let bytes = c.args.bytes.now in
    run_at_end (g.T.ByteTest.passes c.args.test) bytes (length bytes - g.row.N)
    g.row.N c.run_in.result
    (omega (arith, c.loop-at.invariant, c.loop-at-test.false)) (omega arith) c.run_in.ensures
