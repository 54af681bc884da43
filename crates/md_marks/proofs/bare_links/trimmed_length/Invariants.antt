use Rattle.std.proofs.Common.{◌≤◌, length}
use Rattle.md_marks.proofs.bare_links.trimmed_length.Given as goal

abbrev pub invariant-loop-end : goal.invariant-loop-end
invariant-loop-end l = l.end ≤ length l.link

abbrev pub decreases-loop-end : goal.decreases-loop-end
decreases-loop-end l = l.end
