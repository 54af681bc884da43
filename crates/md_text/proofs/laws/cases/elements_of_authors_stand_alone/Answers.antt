-- The reader finds each reading.
use Rattle.std.proofs.Common.{rules}
use Rattle.md_text.proofs.HtmlRead.{readable}
use Rattle.md_text.proofs.laws.cases.elements_of_authors_stand_alone.Goals as goal

pub returns : goal.returns
returns c = search (rules, readable)
