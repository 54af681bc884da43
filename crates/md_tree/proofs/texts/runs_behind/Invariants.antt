-- Each run so far is one.
use Rattle.std.proofs.Common.{◌-◌, length}
use Rattle.md_tree.specs.TextRuns.{AreRuns}
use Rattle.md_tree.proofs.texts.runs_behind.Given as goal

abbrev pub invariant-loop-start : goal.invariant-loop-start
invariant-loop-start l = AreRuns l.fn.bytes l.runs.items

abbrev pub decreases-loop-start : goal.decreases-loop-start
decreases-loop-start l = length l.fn.bytes - l.start
