-- The one search that proves it: it refuses a mutant in a second; the default search, with no
-- answer given, takes ten.
use Rattle.std.proofs.Common.{rules}
use Rattle.md_buffer.proofs.output.Output.lift.Goals as goal

pub returns-then-length-gt-SHORT_LABEL-clause-lifted :
    goal.returns-then-length-gt-SHORT_LABEL-clause-lifted
returns-then-length-gt-SHORT_LABEL-clause-lifted c = search rules

pub returns-then-length-gt-SHORT_LABEL-clause-left :
    goal.returns-then-length-gt-SHORT_LABEL-clause-left
returns-then-length-gt-SHORT_LABEL-clause-left c = search rules
