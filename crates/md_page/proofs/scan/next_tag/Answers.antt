-- A `<` whose tag the rule doesn't pick is passed.
use Rattle.std.proofs.Common.{◌+◌, add-one, arith}
use Rattle.std.proofs.lemmas.List.{take_rest}
use Rattle.md_page.specs.Scan.{picks_of, IsAngleFrom}
use Rattle.md_page.proofs.Passing.{clear-one}
use Rattle.md_page.proofs.scan.next_tag.Goals as goal

pub returns-then-picks : goal.returns-then-picks
returns-then-picks c =
    let text = c.args.text.now in
    let picks = picks_of c.args.rule in
    let angle = c.in-Some.angle in
    let h : IsAngleFrom c.args.rule text c.loop-angle.at angle = c.in-Some.ensures in
    record {
      within = h.within;
      angle = h.angle;
      picked = rw (← add-one angle, ← take_rest text (angle + 1), ← c.picks.ensures)
          c.if-picks.true;
      before = h.passed c.loop-angle.invariant.1;
    }

pub loop-angle-preserved : goal.loop-angle-preserved
loop-angle-preserved c =
    let text = c.args.text.now in
    let picks = picks_of c.args.rule in
    let angle = c.in-Some.angle in
    let h : IsAngleFrom c.args.rule text c.loop-angle.at angle = c.in-Some.ensures in (
      omega (arith, h.within),
      rw (add-one angle) (clear-one picks angle text h.within (h.passed c.loop-angle.invariant.1)
          (rw (h.angle, ← add-one angle, ← take_rest text (angle + 1), ← c.picks.ensures)
          c.if-picks.false)),
    )
