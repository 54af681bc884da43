-- The compiler's error stays true as the one that `?` converts it to. The search alone doesn't
-- combine the clauses of an error.
use Rattle.md_script.specs.Within.{ExplainsEventsWithin, run_within_error_of}
use Rattle.md_script.proofs.RunLemmas.{told}
use Rattle.md_script.proofs.WithinLemmas.{refused_within}
use Rattle.md_script.proofs.running_within.compile_script_within.Goals as goal

pub returns-in_err-compile_within-clause-err : goal.returns-in_err-compile_within-clause-err
returns-in_err-compile_within-clause-err c =
    let why = c.in_err-compile_within.field-0.0 in
    let script = c.args.script.now in
    let bytes = script.document.now in
    told (λ es error. ExplainsEventsWithin es bytes script.options c.args.limits error)
    run_within_error_of c.from_residual.result why c.as_slice.result.now _ c.as_slice.ensures.value
    c.from_residual.ensures.1 (refused_within c.as_slice.result.now bytes script.options
    c.args.limits why c.in_err-compile_within.ensures.refused)
