-- The reader finds each reading.
use Rattle.std.proofs.Common.{rules}
use Rattle.md_text.proofs.HtmlRead.{readable}
use Rattle.md_text.proofs.laws.cases.attributes_of_authors_are_allowed.Goals as goal

pub returns : goal.returns
returns c = search (rules, readable)
