-- Nothing follows.
use Rattle.md_measure.proofs.Summary.{depth-summary}
use Rattle.md_measure.proofs.measure.Measure.depth.Goals as goal

pub returns : goal.returns
returns c = λ events held. depth-summary c.args.self.now events held
