-- By its forest.
use Rattle.md_text.proofs.HtmlJoin.{void}
use Rattle.md_text.proofs.laws.void_tag_has_a_reading.Goals as goal

pub returns : goal.returns
returns c = void
