-- An iteration skips two bytes, or stops before the second.
use Rattle.std.proofs.Common.{◌≡◌, ◌<◌, ◌+◌, ℕ, true, length, subst, arith, ne_eqb}
use Rattle.std.specs.Prelude.{slice_index}
use Rattle.md_page.specs.Scan.{clear, picks_of}
use Rattle.md_page.proofs.Passing.{before-angle, past-two}
use Rattle.md_page.proofs.scan.pass_near.Goals as goal

pub returns-then-text-here-eq60-clause-passed : goal.returns-then-text-here-eq60-clause-passed
returns-then-text-here-eq60-clause-passed c = λ h.
    let text = c.args.text.now in
    let here = c.args.at + c.loop-passed.passed in
    let within : here + 1 < length text = omega (arith, c.requires, c.loop-passed-test.true) in
    before-angle c.args.rule text here within c.if-text-here-eq60.true
    (c.loop-passed.invariant.1 h)

pub loop-passed-preserved : goal.loop-passed-preserved
loop-passed-preserved c =
    let text = c.args.text.now in
    let passed = c.loop-passed.passed in
    let here = c.args.at + passed in
    let within : here + 1 < length text = omega (arith, c.requires, c.loop-passed-test.true) in (
      omega (arith, c.loop-passed-test.true),
      λ h. subst (λ m. clear (picks_of c.args.rule) m text ≡ true) (sum c.args.at passed)
          (past-two c.args.rule text here within
          (ne_eqb (slice_index text (here + 1)) 60 c.if-text-here-eq60.false)
          (c.may_begin.ensures c.if-may_begin.false) (c.loop-passed.invariant.1 h)),
    )
  where
    sum : (a p : ℕ) → a + p + 2 ≡ a + (p + 2)
    sum a p = omega arith
