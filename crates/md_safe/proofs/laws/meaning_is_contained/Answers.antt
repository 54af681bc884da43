-- By one induction over the document, beside that of its readings.
use Rattle.md_safe.proofs.ContainedWhole.{meaning-contained}
use Rattle.md_safe.proofs.laws.meaning_is_contained.Goals as goal

pub returns : goal.returns
returns c = meaning-contained
