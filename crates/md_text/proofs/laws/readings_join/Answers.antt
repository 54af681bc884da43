-- By its forest.
use Rattle.md_text.proofs.HtmlJoin.{join}
use Rattle.md_text.proofs.laws.readings_join.Goals as goal

pub returns : goal.returns
returns c = join
