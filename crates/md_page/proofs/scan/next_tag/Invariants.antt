-- No tag that the rule picks begins before.
use Rattle.std.proofs.Common.{◌≡◌, ◌≤◌, ◌-◌, true, length}
use Rattle.md_page.specs.Scan.{clear, picks_of}
use Rattle.md_page.proofs.scan.next_tag.Given as goal

abbrev pub invariant-loop-angle : goal.invariant-loop-angle
invariant-loop-angle l = (l.at ≤ length l.text) × (clear (picks_of l.rule) l.at l.text ≡ true)

abbrev pub decreases-loop-angle : goal.decreases-loop-angle
decreases-loop-angle l = length l.text - l.at
