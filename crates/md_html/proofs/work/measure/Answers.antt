-- One event more is measured.
use Rattle.std.proofs.Common.{arith}
use Rattle.std.proofs.Math.Seq.{append_snoc}
use Rattle.md_html.proofs.work.measure.Goals as goal

pub loop-event-preserved : goal.loop-event-preserved
loop-event-preserved c = grind (arith, append_snoc)
