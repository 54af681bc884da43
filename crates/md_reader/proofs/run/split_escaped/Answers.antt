-- One reference more and the plain bytes after it.
use Rattle.std.proofs.Common.{arith}
use Rattle.md_reader.proofs.Runs.{before-then}
use Rattle.md_reader.proofs.run.split_escaped.Goals as goal

pub references-preserved : goal.references-preserved
references-preserved c =
    let text = c.args.text.now in
    let rest = c.references.rest.now in
    let later = c.in-Some.later.now in
    let next = c.past_plain-rest-in-Some in (
      before-then text rest next.result.now c.references.invariant.0
          (before-then rest later next.result.now c.in-Some.ensures.is next.ensures.is),
      omega (arith, c.references.invariant.1, c.in-Some.ensures.shorter, next.ensures.shorter),
      next.ensures.stops,
    )
