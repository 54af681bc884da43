-- The plain bytes, and where they stop.
use Rattle.md_reader.proofs.Runs.{before-plain, plain-stops}
use Rattle.md_reader.proofs.run.past_plain.Goals as goal

pub returns-clause-is : goal.returns-clause-is
returns-clause-is c = rw (c.split_at.ensures.back, c.plain_length.ensures.count)
    (before-plain c.args.text.now)

pub returns-clause-stops : goal.returns-clause-stops
returns-clause-stops c = rw (c.split_at.ensures.back, c.plain_length.ensures.count)
    (plain-stops c.args.text.now)
