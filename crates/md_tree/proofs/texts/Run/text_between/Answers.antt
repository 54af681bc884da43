-- Both indices lie in the run, so the part of its text between them is that part of the bytes.
use Rattle.std.proofs.Common.{rules, ◌≡◌, ◌-◌, ◌≤◌, arith}
use Rattle.md_tree.proofs.TextRuns.{run-part, some-weaken}
use Rattle.md_tree.proofs.texts.Run.text_between.Goals as goal

pub returns : goal.returns
returns c =
    let s = c.args.self.now.start in
    let low : s ≤ c.args.start = search rules in
    let low_end : s ≤ c.args.end = search rules in
    let from : c.in_ok-from.from ≡ c.args.start - s = search rules in
    let to : c.in_ok-to.to ≡ c.args.end - s = search rules in
    some-weaken _ _
    (λ part is bytes run. run-part bytes c.args.self.now.text.now part.now s c.args.start c.args.end
    run.0 run.1 low low_end (omega (arith, from, to, is.0)) (omega (arith, to, is.1))
    (rw (← from, ← to) is.2) is.3) c.part.result c.part.ensures
