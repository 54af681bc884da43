-- The reader finds each reading, and an attribute fails.
use Rattle.std.proofs.Common.{rules}
use Rattle.md_text.proofs.HtmlRead.{fails_with}
use Rattle.md_text.proofs.laws.cases.unsafe_links.Goals as goal

pub returns : goal.returns
returns c = search (rules, fails_with)
