-- By one induction over the document: only HTML uses the filter, and it doesn't if it is escaped.
use Rattle.md_html.proofs.TagFilter.{meaning-moot}
use Rattle.md_html.proofs.laws.tagfilter_is_moot_when_escaped.Goals as goal

pub returns : goal.returns
returns c = meaning-moot
