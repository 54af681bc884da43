-- The front is the run that begins with the first byte.
use Rattle.std.proofs.Common.{◌≡◌, ◌-◌, arith}
use Rattle.md_tree.proofs.TextRuns.{run-part}
use Rattle.md_tree.proofs.texts.Texts.text_between.Goals as goal

pub returns-in-Some : goal.returns-in-Some
returns-in-Some c =
    let texts = c.self.inside in
    let is = c.in-Some.ensures in
    let start : c.args.start - 0 ≡ c.args.start = omega arith in
    let end : c.args.end - 0 ≡ c.args.end = omega arith in
    rw (← c.self.view_is)
    (run-part texts.bytes.now texts.front.now c.in-Some.text.now 0 c.args.start c.args.end
    c.self.invariant.0.0 c.self.invariant.0.1 (omega arith) (omega arith) (omega (arith, is.0))
    (omega (arith, is.1)) (rw (start, end) is.2) is.3)
