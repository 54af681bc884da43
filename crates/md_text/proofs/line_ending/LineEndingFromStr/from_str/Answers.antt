-- The one search that proves it: it refuses a mutant in a second; the default search, with no
-- answer given, takes ten.
use Rattle.std.proofs.Common.{rules}
use Rattle.md_text.proofs.line_ending.LineEndingFromStr.from_str.Goals as goal

pub returns-in-text-2 : goal.returns-in-text-2
returns-in-text-2 c = search rules
