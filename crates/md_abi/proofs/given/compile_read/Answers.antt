-- The compiler's refusal stays true as the failure that `?` converts it to. The search alone
-- doesn't combine the five clauses of a refusal.
use Rattle.md_tree.specs.Grammar.{handed}
use Rattle.md_abi.specs.Failures.{failure_of, IsRefusalOf}
use Rattle.md_abi.proofs.GivenLemmas.{reported, reported_of}
use Rattle.md_abi.proofs.given.compile_read.Goals as goal

pub returns-in_err-compile-clause-err : goal.returns-in_err-compile-clause-err
returns-in_err-compile-clause-err c =
    let why = c.in_err-compile.ensures in
    let given = handed c.args.events.now c.args.bytes.now c.args.names.now in
    reported (IsRefusalOf given) failure_of c.in_err-compile.field-0.0 c.from_residual.result
    (reported_of given c.in_err-compile.field-0.0 (record {
      order = why.order;
      mdx = why.mdx;
      of_node = why.of_node;
      lost = why.lost;
      outside = why.outside;
    })) c.from_residual.ensures.1
