-- The sign, the name and the index that are split off are those of the input's first line, and form
-- its event. The search alone doesn't assemble the line from them.
use Rattle.std.proofs.Common.{◌∷◌, sym, ap, ◌∙◌}
use Rattle.md_script.proofs.PlainLemmas.{line_plain}
use Rattle.md_script.proofs.plain_line.read_uncut_line.Goals as goal

pub returns : goal.returns
returns c =
    line_plain c.in_ok-sign.sign.now c.in_ok-name.name.now c.in_ok-name.place.now c.args.input.now
    c.in_ok-index.following.now c.in_ok-kind.kind c.in_ok-name-2.name
    c.in_ok-index.index (c.in_ok-sign.ensures.cases.0 ∙ ap (λ rest. c.in_ok-sign.sign.now
    ∷ rest) c.in_ok-name.ensures.whole) (sym c.in_ok-kind.ensures)
    (sym c.in_ok-name-2.ensures) c.in_ok-name.ensures.unbroken c.in_ok-index.ensures
