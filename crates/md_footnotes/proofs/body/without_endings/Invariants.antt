-- In each iteration, the remaining text and the whole text are the same without the line endings at
-- their ends. It gets shorter.
use Rattle.std.proofs.Common.{◌≡◌, length}
use Rattle.md_footnotes.specs.Words.{unended}
use Rattle.md_footnotes.proofs.body.without_endings.Given as goal

abbrev pub invariant-loop-rest : goal.invariant-loop-rest
invariant-loop-rest l = unended l.kept ≡ unended l.text

abbrev pub decreases-loop-rest : goal.decreases-loop-rest
decreases-loop-rest l = length l.kept
