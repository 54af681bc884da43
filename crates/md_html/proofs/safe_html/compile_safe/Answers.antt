-- A safe text's promises are those of the text, under safe options; the one search that proves the
-- other clause refuses a mutant in a second.
use Rattle.std.proofs.Common.{rules, arith}
use Rattle.md_html.proofs.safe_html.compile_safe.Goals as goal

pub returns-clause-promises : goal.returns-clause-promises
returns-clause-promises c = grind arith

pub returns-in_err-text-clause-options : goal.returns-in_err-text-clause-options
returns-in_err-text-clause-options c = search rules
