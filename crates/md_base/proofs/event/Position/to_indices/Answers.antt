-- The one search that proves it: it refuses a mutant in a second; the default search, with no
-- answer given, takes ten.
use Rattle.std.proofs.Common.{rules}
use Rattle.md_base.proofs.event.Position.to_indices.Goals as goal

pub returns-clause-start : goal.returns-clause-start
returns-clause-start c = search rules

pub returns-clause-end : goal.returns-clause-end
returns-clause-end c = search rules
