-- By the last element.
use Rattle.md_text.proofs.HtmlPut.{paragraph_takes}
use Rattle.md_text.proofs.laws.paragraph_takes_an_insertion.Goals as goal

pub returns : goal.returns
returns c = paragraph_takes
