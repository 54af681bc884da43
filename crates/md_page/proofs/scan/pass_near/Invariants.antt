-- No tag that the rule picks begins at what is passed.
use Rattle.std.proofs.Common.{◌≤◌, ◌+◌, ◌-◌}
use Rattle.md_page.specs.Scan.{IsPassed}
use Rattle.md_page.proofs.scan.pass_near.Given as goal

abbrev pub invariant-loop-passed : goal.invariant-loop-passed
invariant-loop-passed l = (l.passed ≤ 17) × IsPassed l.rule l.text l.at (l.at + l.passed)

abbrev pub decreases-loop-passed : goal.decreases-loop-passed
decreases-loop-passed l = 16 - l.passed
