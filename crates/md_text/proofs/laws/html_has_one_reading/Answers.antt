-- From the first byte on, what is written says which node comes.
use Rattle.md_text.proofs.HtmlReading.{one_reading}
use Rattle.md_text.proofs.laws.html_has_one_reading.Goals as goal

pub returns : goal.returns
returns c = one_reading
