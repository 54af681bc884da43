-- The one search that proves it: it refuses a mutant in a second; the default search, with no
-- answer given, takes ten.
use Rattle.std.proofs.Common.{rules}
use Rattle.md_text.proofs.lanes.first_set.Goals as goal

pub returns-else-marks-eq0 : goal.returns-else-marks-eq0
returns-else-marks-eq0 c = search rules
