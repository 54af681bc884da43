-- The place is looked up at the index that the fact has, if it has one: the search reads into the
-- look-up before it sees that.
use Rattle.std.proofs.Common.{sym, ap, ◌∙◌}
use Rattle.std.specs.Prelude.{option_and_then}
use Rattle.md_tree.proofs.Common.{position_there}
use Rattle.md_tree.proofs.checked.read.position_read.Goals as goal

pub returns : goal.returns
returns c =
    let there =
    option_and_then (λ index. position_there c.args.events.now c.args.facts.now index) in
    c.position_of.ensures ∙ ap there (sym c.in_ok-index_if.was ∙ c.index_if.ensures)

pub returns-in_err-index_if : goal.returns-in_err-index_if
returns-in_err-index_if c =
    let there =
    option_and_then (λ index. position_there c.args.events.now c.args.facts.now index) in
    c.from_residual.ensures ∙ ap there (sym c.in_err-index_if.was ∙ c.index_if.ensures)
