-- The compiler's error stays true as the failure that `?` converts it to. The search alone doesn't
-- combine the clauses of an error.
use Rattle.md_tree.specs.Grammar.{handed}
use Rattle.md_abi.specs.WithinFailures.{IsFailureWithin, within_failure_of}
use Rattle.md_abi.proofs.GivenLemmas.{reported}
use Rattle.md_abi.proofs.WithinLemmas.{failure_within}
use Rattle.md_abi.proofs.within.compile_read_within.Goals as goal

pub returns-in_err-compile_within-clause-err : goal.returns-in_err-compile_within-clause-err
returns-in_err-compile_within-clause-err c =
    let given = handed c.args.read.events.now c.args.read.bytes.now c.args.read.names.now in
    let why = c.in_err-compile_within.field-0.0 in
    reported (IsFailureWithin given c.args.options.now c.args.limits) within_failure_of why
    c.from_residual.result (failure_within given c.args.options.now c.args.limits why
    c.in_err-compile_within.ensures.refused) c.from_residual.ensures.1
