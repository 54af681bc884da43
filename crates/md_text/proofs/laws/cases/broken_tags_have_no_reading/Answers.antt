-- The reader finds none.
use Rattle.std.proofs.Common.{rules}
use Rattle.md_text.proofs.HtmlRead.{unreadable}
use Rattle.md_text.proofs.laws.cases.broken_tags_have_no_reading.Goals as goal

pub returns : goal.returns
returns c = search (rules, unreadable)
