-- The one search that proves it: it refuses a mutant in a second; the default search, with no
-- answer given, takes ten.
use Rattle.std.proofs.Common.{rules}
use Rattle.md_pattern.proofs.summary.quote_as.Goals as goal

pub returns-in-QuotePrefix : goal.returns-in-QuotePrefix
returns-in-QuotePrefix c = search rules
