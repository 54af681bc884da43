-- There is a separator exactly where its first place is found.
-- By itself the search can't go from a place to the test on all bytes. The other goals have the
-- search that proves them, and no other: all that is tried without an answer takes longer.
use Rattle.std.proofs.Common.{arith, eqb, is_some, ap, ◌∙◌}
use Rattle.std.proofs.lemmas.Grind.{common_steps}
use Rattle.md_script.proofs.SplitLemmas.{any_from_position}
use Rattle.md_script.proofs.split.split_at_first.Goals as goal

pub returns-in_err-index-clause-found : goal.returns-in_err-index-clause-found
returns-in_err-index-clause-found c =
    ap is_some c.from_residual.ensures ∙ ap is_some c.in_err-index.ensures
    ∙ any_from_position (λ byte. eqb byte c.args.separator) c.args.bytes.now

pub returns-clause-found : goal.returns-clause-found
returns-clause-found c = ap is_some c.in_ok-index.ensures
    ∙ any_from_position (λ byte. eqb byte c.args.separator) c.args.bytes.now

pub returns-in_err-index-clause-whole : goal.returns-in_err-index-clause-whole
returns-in_err-index-clause-whole c = grind (arith, common_steps)

pub returns-in_err-index-clause-nothing : goal.returns-in_err-index-clause-nothing
returns-in_err-index-clause-nothing c = grind (arith, common_steps)

pub returns-clause-front : goal.returns-clause-front
returns-clause-front c = grind (arith, common_steps)

pub returns-clause-back : goal.returns-clause-back
returns-clause-back c = grind (arith, common_steps)

pub returns-clause-len : goal.returns-clause-len
returns-clause-len c = grind (arith, common_steps)
