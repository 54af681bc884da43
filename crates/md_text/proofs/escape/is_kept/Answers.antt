-- The one search that proves it: it refuses a mutant in a second; the default search, with no
-- answer given, takes ten.
use Rattle.std.proofs.Common.{rules}
use Rattle.md_text.proofs.escape.is_kept.Goals as goal

pub returns-after-encode_html : goal.returns-after-encode_html
returns-after-encode_html c = search rules
