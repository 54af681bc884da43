-- The compiler's refusal, of options or of an event, stays true as the error that `?` converts it
-- to.
use Rattle.md_script.specs.SafeRun.{ExplainsSafeEvents, safe_run_error_of}
use Rattle.md_script.proofs.RunLemmas.{told, refused_safely}
use Rattle.md_script.proofs.running.compile_safely.Goals as goal

pub returns-in_err-compile_safe-clause-err : goal.returns-in_err-compile_safe-clause-err
returns-in_err-compile_safe-clause-err c =
    let says = c.in_err-compile_safe.ensures in
    let why = c.in_err-compile_safe.field-0.0 in
    let script = c.args.script.now in
    told (λ es error. ExplainsSafeEvents es script.document.now script.options error)
    safe_run_error_of c.from_residual.result why c.as_slice.result.now _ c.as_slice.ensures.value
    c.from_residual.ensures.1 (refused_safely c.as_slice.result.now script.document.now
    script.options why says.options says.refused)
