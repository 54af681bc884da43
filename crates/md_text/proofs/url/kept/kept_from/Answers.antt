-- What is passed, and what comes next, is written as it is.
use Rattle.std.proofs.Common.{subst}
use Rattle.std.proofs.lemmas.List.{take_rest}
use Rattle.md_text.specs.Kept.{AreKept}
use Rattle.md_text.proofs.PlainLemmas.{kept-join}
use Rattle.md_text.proofs.url.kept.kept_from.Goals as goal

pub loop-known-preserved : goal.loop-known-preserved
loop-known-preserved c =
    let bytes = c.args.bytes.now in
    let at = c.loop-known.at in
    let step = c.kept_step-step.result in
    kept-join bytes at step c.loop-known.invariant
    (subst (λ left. AreKept left step) (take_rest bytes at) c.kept_step-step.ensures.kept)
