-- The remaining bytes are as many as the definition counts; and a text may be cut where the `</p>`
-- at its end begins, since `<` is ASCII. The search alone doesn't find that byte in the text from
-- the test on the text's end.
use Rattle.std.proofs.Common.{arith}
use Rattle.md_footnotes.proofs.Endings.{length-unended, paragraph-cut}
use Rattle.md_footnotes.proofs.body.paragraph_end.Goals as goal

pub returns-then-ends_with-clause-place : goal.returns-then-ends_with-clause-place
returns-then-ends_with-clause-place c = grind (arith, length-unended)

pub returns-then-ends_with-clause-cut : goal.returns-then-ends_with-clause-cut
returns-then-ends_with-clause-cut c = grind (arith, paragraph-cut, length-unended)
