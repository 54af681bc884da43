-- By its forest.
use Rattle.md_text.proofs.HtmlJoin.{enclosed}
use Rattle.md_text.proofs.laws.element_has_a_reading.Goals as goal

pub returns : goal.returns
returns c = enclosed
