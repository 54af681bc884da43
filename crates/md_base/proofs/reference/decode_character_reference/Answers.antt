-- The one search that proves it: it refuses a mutant in a second; the default search, with no
-- answer given, takes ten.
use Rattle.std.proofs.Common.{rules}
use Rattle.md_base.proofs.reference.decode_character_reference.Goals as goal

pub returns-in_default : goal.returns-in_default
returns-in_default c = search rules
