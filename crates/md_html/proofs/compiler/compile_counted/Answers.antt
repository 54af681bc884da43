-- The checked events are those of the arguments.
use Rattle.std.proofs.Common.{arith}
use Rattle.md_html.proofs.compiler.compile_counted.Goals as goal

pub returns-clause-promises : goal.returns-clause-promises
returns-clause-promises c = grind arith
