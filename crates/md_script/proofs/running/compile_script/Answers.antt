-- The compiler's refusal stays true as the error that `?` converts it to. The search alone doesn't
-- combine the five clauses of a refusal.
use Rattle.md_script.specs.Error.{run_error_of}
use Rattle.md_script.specs.Run.{ExplainsEvents}
use Rattle.md_script.proofs.RunLemmas.{told, refused}
use Rattle.md_script.proofs.running.compile_script.Goals as goal

pub returns-in_err-compile-clause-err : goal.returns-in_err-compile-clause-err
returns-in_err-compile-clause-err c =
    let says = c.in_err-compile.ensures in
    let why = c.in_err-compile.field-0.0 in
    let bytes = c.args.script.now.document.now in
    told (λ es error. ExplainsEvents es bytes error) run_error_of c.from_residual.result why
    c.as_slice.result.now _ c.as_slice.ensures.value c.from_residual.ensures.1
    (refused c.as_slice.result.now bytes why (record {
      order = says.order;
      mdx = says.mdx;
      of_node = says.of_node;
      lost = says.lost;
      outside = says.outside;
    }))
