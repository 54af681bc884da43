-- A block that isn't plain ends the count, or else all of it is counted.
use Rattle.std.proofs.Common.{arith}
use Rattle.md_text.proofs.RunLemmas.{run_ends, run_goes_on}
use Rattle.md_reader.specs.Runs.{is_plain}
use Rattle.md_reader.proofs.run.plain_length.Goals as goal

pub returns-then-count-lt-BLOCK_SIZE-clause-count :
    goal.returns-then-count-lt-BLOCK_SIZE-clause-count
returns-then-count-lt-BLOCK_SIZE-clause-count c = run_ends is_plain c.args.text.now c.loop-at.at 16
    c.plain_in-count.result c.loop-at.invariant.0 c.plain_in-count.ensures
    c.if-count-lt-BLOCK_SIZE.true

pub loop-at-preserved : goal.loop-at-preserved
loop-at-preserved c = (
  run_goes_on is_plain c.args.text.now c.loop-at.at 16 c.plain_in-count.result
      c.loop-at.invariant.0 c.plain_in-count.ensures c.if-count-lt-BLOCK_SIZE.false,
  omega (arith, c.loop-at-test.true),
)
