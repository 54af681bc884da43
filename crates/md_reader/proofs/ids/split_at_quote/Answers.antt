-- The first quote.
use Rattle.std.proofs.Common.{arith}
use Rattle.md_reader.proofs.ScannedIds.{at-first}
use Rattle.md_reader.proofs.ids.split_at_quote.Goals as goal

pub returns-clause-parts : goal.returns-clause-parts
returns-clause-parts c = at-first c.args.text.now c.split_once.result
    (c.split_once.ensures.byte (omega arith) (λ w o f. f))
