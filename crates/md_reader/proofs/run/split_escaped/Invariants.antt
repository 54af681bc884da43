-- The text before the rest is escaped, and the rest begins with no plain byte.
use Rattle.std.proofs.Common.{◌≡◌, ◌≤◌, false, length}
use Rattle.md_reader.specs.Runs.{IsEscapedBefore, begins_plain}
use Rattle.md_reader.proofs.run.split_escaped.Given as goal

abbrev pub invariant-references : goal.invariant-references
invariant-references l =
    IsEscapedBefore l.text l.rest × (length l.rest ≤ length l.text)
    × (begins_plain l.rest ≡ false)

abbrev pub decreases-references : goal.decreases-references
decreases-references l = length l.rest
