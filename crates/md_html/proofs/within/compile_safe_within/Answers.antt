-- A safe text's promises are those of the text, under safe options; the one search that proves the
-- other clause refuses a mutant in a second.
use Rattle.std.proofs.Common.{rules, arith}
use Rattle.md_html.proofs.within.compile_safe_within.Goals as goal

pub returns-clause-within : goal.returns-clause-within
returns-clause-within c = rw c.new.ensures c.in_ok-text.ensures.within

pub returns-clause-nesting : goal.returns-clause-nesting
returns-clause-nesting c = grind arith

pub returns-clause-promises : goal.returns-clause-promises
returns-clause-promises c = grind arith

pub returns-in_err-text-clause-options : goal.returns-in_err-text-clause-options
returns-in_err-text-clause-options c = search rules
