-- The two numbers, up to the dot and up to the line feed, are those of the point. The search alone
-- doesn't assemble the point from them.
use Rattle.md_script.proofs.PlainLemmas.{place_cut}
use Rattle.md_script.proofs.plain_line.read_cut_place.Goals as goal

pub returns : goal.returns
returns c =
    place_cut c.args.bytes.now c.in_ok-index.columns.now c.in_ok-vs.following.now
    c.in_ok-index.index c.in_ok-vs.vs c.in_ok-index.ensures c.in_ok-vs.ensures
