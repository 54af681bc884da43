-- What is passed belongs to the name.
use Rattle.std.proofs.Common.{◌≡◌, ◌≤◌, ◌+◌, ◌-◌, length, drop}
use Rattle.md_blocks.specs.HtmlBlocks.{name_length}
use Rattle.md_blocks.proofs.html.name_length.Given as goal

abbrev pub invariant-loop-length : goal.invariant-loop-length
invariant-loop-length l =
    (l.length ≤ length l.text)
    × (name_length l.text ≡ l.length + name_length (drop l.length l.text))

abbrev pub decreases-loop-length : goal.decreases-loop-length
decreases-loop-length l = length l.text - l.length
