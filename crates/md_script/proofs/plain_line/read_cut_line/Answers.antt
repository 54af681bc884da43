-- The sign, the name and the point are those of the input's first line, and form its event. The
-- search alone doesn't assemble the line from them.
use Rattle.std.proofs.Common.{sym}
use Rattle.md_script.proofs.CommonLemmas.{line_cut}
use Rattle.md_script.proofs.plain_line.read_cut_line.Goals as goal

pub returns : goal.returns
returns c =
    line_cut c.in_ok-sign.sign.now c.args.input.now c.in_ok-sign.rest.now c.in_ok-name.place.now
    c.in_ok-point.following.now c.in_ok-kind.kind c.in_ok-name.name c.in_ok-point.point
    c.in_ok-sign.ensures.cases.0
    (sym c.in_ok-kind.ensures) c.in_ok-name.ensures c.in_ok-point.ensures
