-- The one search that proves it: it refuses a mutant in a second; the default search, with no
-- answer given, takes ten.
use Rattle.std.proofs.Common.{rules}
use Rattle.md_text.proofs.line_ending.LineEnding.as_str.Goals as goal

pub returns-in-CarriageReturn : goal.returns-in-CarriageReturn
returns-in-CarriageReturn c = search rules
