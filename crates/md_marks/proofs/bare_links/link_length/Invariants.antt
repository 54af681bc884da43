-- What is counted belongs to the link.
use Rattle.std.proofs.Common.{◌≡◌, ◌+◌, ◌-◌, ◌≤◌, drop, length}
use Rattle.md_marks.specs.BareLinks as spec
use Rattle.md_marks.proofs.bare_links.link_length.Given as goal

abbrev pub invariant-loop-length : goal.invariant-loop-length
invariant-loop-length l = (l.depth ≤ l.length) × (l.length ≤ length l.text)
    × (spec.link_length 0 l.text ≡ l.length + spec.link_length l.depth (drop l.length l.text))

abbrev pub decreases-loop-length : goal.decreases-loop-length
decreases-loop-length l = length l.text - l.length
