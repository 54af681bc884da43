-- By its forest.
use Rattle.md_text.proofs.HtmlJoin.{nothing}
use Rattle.md_text.proofs.laws.nothing_has_a_reading.Goals as goal

pub returns : goal.returns
returns c = nothing
