-- An end tag, or why there is none.
use Rattle.std.proofs.Common.{◌∷◌, ◌++◌, sym, ◌∙◌}
use Rattle.md_reader.proofs.AttributeLemmas.{none-out}
use Rattle.md_reader.proofs.NodeLemmas.{end-each, end-cut}
use Rattle.md_reader.proofs.nodes.past_end.Goals as goal

pub returns-in_err-end-clause-is : goal.returns-in_err-end-clause-is
returns-in_err-end-clause-is c = none-out _ c.from_residual.result c.from_residual.ensures
    (λ rest e. c.in_err-end.ensures.is (c.args.name.now ++ (62 ∷ rest)) e)

pub returns-in_err-rest-clause-is : goal.returns-in_err-rest-clause-is
returns-in_err-rest-clause-is c = none-out _ c.from_residual-in_err-rest.result
    c.from_residual-in_err-rest.ensures (λ rest e. c.in_err-rest.ensures.is (62 ∷ rest)
    (end-cut c.in_ok-end.end.now (c.args.name.now ++ (62 ∷ rest))
    (sym c.in_ok-end.ensures.is ∙ e)))

pub returns-clause-is : goal.returns-clause-is
returns-clause-is c = end-each c.args.text.now c.args.name.now c.in_ok-end.end.now
    c.in_ok-rest.rest.now c.in_ok-end.ensures.is c.in_ok-rest.ensures.is c.past-3.result
    c.past-3.ensures.is
