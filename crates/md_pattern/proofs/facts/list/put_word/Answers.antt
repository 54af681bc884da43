-- The one search that proves it: it refuses a mutant in a second; the default search, with no
-- answer given, takes ten.
use Rattle.std.proofs.Common.{rules}
use Rattle.md_pattern.proofs.facts.list.put_word.Goals as goal

pub returns-then-index-len : goal.returns-then-index-len
returns-then-index-len c = search rules
