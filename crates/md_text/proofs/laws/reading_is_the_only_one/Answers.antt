-- By the law that there is no second one.
use Rattle.md_text.proofs.HtmlReading.{only_reading}
use Rattle.md_text.proofs.laws.reading_is_the_only_one.Goals as goal

pub returns : goal.returns
returns c = only_reading
