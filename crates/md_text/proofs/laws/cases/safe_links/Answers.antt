-- The reader finds each reading, and its attributes pass.
use Rattle.std.proofs.Common.{rules}
use Rattle.md_text.proofs.HtmlRead.{readable_with}
use Rattle.md_text.proofs.laws.cases.safe_links.Goals as goal

pub returns : goal.returns
returns c = search (rules, readable_with)
