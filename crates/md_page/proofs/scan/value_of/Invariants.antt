-- The rest of the attributes has the same value.
use Rattle.std.proofs.Common.{◌≡◌, length}
use Rattle.md_page.specs.Scan.{value_of}
use Rattle.md_page.proofs.scan.value_of.Given as goal

abbrev pub invariant-loop-name : goal.invariant-loop-name
invariant-loop-name l = value_of l.key l.rest ≡ value_of l.key l.attributes

abbrev pub decreases-loop-name : goal.decreases-loop-name
decreases-loop-name l = length l.rest
