-- By its forest.
use Rattle.md_text.proofs.HtmlJoin.{text}
use Rattle.md_text.proofs.laws.text_has_a_reading.Goals as goal

pub returns : goal.returns
returns c = text
