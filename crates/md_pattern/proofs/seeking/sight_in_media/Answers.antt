-- The one search that proves it: it refuses a mutant in a second; the default search, with no
-- answer given, takes ten.
use Rattle.std.proofs.Common.{rules}
use Rattle.md_pattern.proofs.seeking.sight_in_media.Goals as goal

pub returns-in-ReferenceString : goal.returns-in-ReferenceString
returns-in-ReferenceString c = search rules
