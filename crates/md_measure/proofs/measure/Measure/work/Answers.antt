-- Nothing follows.
use Rattle.std.proofs.Common.{◌∙◌}
use Rattle.md_measure.proofs.Summary.{work-summary}
use Rattle.md_measure.proofs.measure.Measure.work.Goals as goal

pub returns : goal.returns
returns c = λ events held. c.saturating_add.ensures ∙ work-summary c.args.self.now events held
