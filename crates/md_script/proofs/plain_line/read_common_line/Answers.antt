-- The sign, the name and the index are those of the input's first line, and form its event. The
-- search alone doesn't assemble the line from them.
use Rattle.std.proofs.Common.{sym}
use Rattle.md_script.proofs.CommonLemmas.{line_common}
use Rattle.md_script.proofs.plain_line.read_common_line.Goals as goal

pub returns : goal.returns
returns c =
    line_common c.in_ok-sign.sign.now c.args.input.now c.in_ok-sign.rest.now c.in_ok-name.place.now
    c.in_ok-index.following.now c.in_ok-kind.kind c.in_ok-name.name c.in_ok-index.index
    c.in_ok-sign.ensures.cases.0
    (sym c.in_ok-kind.ensures) c.in_ok-name.ensures c.in_ok-index.ensures
