-- Nothing follows.
use Rattle.md_measure.proofs.Summary.{calls-summary}
use Rattle.md_measure.proofs.measure.Measure.calls.Goals as goal

pub returns : goal.returns
returns c = λ events held. calls-summary c.args.self.now events held
