-- The event of a line is built of its sign, its name and its place; where one of them says nothing,
-- so does the line. By itself the search takes long over it, and can't see that the definition
-- finds no place where there is no space.
use Rattle.std.proofs.Common.{None, refl, ◌∙◌}
use Rattle.md_script.proofs.LineLemmas.{event_built, without_place}
use Rattle.md_script.proofs.line.read_event.Goals as goal

pub returns-in_err-kind : goal.returns-in_err-kind
returns-in_err-kind c =
    c.from_residual-in_err-kind.ensures
    ∙ event_built c.args.line.now c.in_ok-sign.sign.now c.in_ok-sign.rest.now _ _ None _ _
    c.in_ok-sign.ensures.cases.0 refl refl c.in_err-kind.ensures refl refl

pub returns-in_err-name : goal.returns-in_err-name
returns-in_err-name c =
    c.from_residual-in_err-name.ensures ∙ without_place c.args.line.now c.in_ok-sign.sign.now
    c.in_ok-sign.rest.now c.in_ok-sign.ensures.cases.0 c.in_err-name.ensures.nothing

pub returns-in_err-name-2 : goal.returns-in_err-name-2
returns-in_err-name-2 c =
    c.from_residual-in_err-name-2.ensures
    ∙ event_built c.args.line.now c.in_ok-sign.sign.now c.in_ok-sign.rest.now _ _ _ None _
    c.in_ok-sign.ensures.cases.0 c.in_ok-name.ensures.front refl c.in_ok-kind.ensures
    c.in_err-name-2.ensures refl

pub returns-in_err-point : goal.returns-in_err-point
returns-in_err-point c =
    c.from_residual-in_err-point.ensures
    ∙ event_built c.args.line.now c.in_ok-sign.sign.now c.in_ok-sign.rest.now _ _ _ _ None
    c.in_ok-sign.ensures.cases.0 c.in_ok-name.ensures.front c.in_ok-name.ensures.back
    c.in_ok-kind.ensures c.in_ok-name-2.ensures c.in_err-point.ensures

pub returns : goal.returns
returns c =
    event_built c.args.line.now c.in_ok-sign.sign.now c.in_ok-sign.rest.now _ _ _ _ _
    c.in_ok-sign.ensures.cases.0 c.in_ok-name.ensures.front c.in_ok-name.ensures.back
    c.in_ok-kind.ensures c.in_ok-name-2.ensures c.in_ok-point.ensures
