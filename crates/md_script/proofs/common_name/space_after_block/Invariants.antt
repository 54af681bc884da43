-- In each iteration, the searched blocks lie within the bytes. Fewer bytes remain before the end of
-- the longest name each time.
use Rattle.std.proofs.Common.{◌≤◌, ◌-◌, length}
use Rattle.md_script.proofs.common_name.space_after_block.Given as goal

abbrev pub invariant-loop-before : goal.invariant-loop-before
invariant-loop-before l = l.before ≤ length l.bytes

abbrev pub decreases-loop-before : goal.decreases-loop-before
decreases-loop-before l = 48 - l.before
