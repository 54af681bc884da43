-- Nothing follows.
use Rattle.md_measure.proofs.Summary.{nested-summary}
use Rattle.md_measure.proofs.measure.Measure.has_nested_link.Goals as goal

pub returns : goal.returns
returns c = λ events document held flat. nested-summary c.args.self.now events held document flat
