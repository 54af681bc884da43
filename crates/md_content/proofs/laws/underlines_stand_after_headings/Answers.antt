-- By the patterns of spines.
use Rattle.md_content.proofs.Underlines.{grammatical-underlined}
use Rattle.md_content.proofs.laws.underlines_stand_after_headings.Goals as goal

pub returns : goal.returns
returns c = grammatical-underlined
