-- What follows from here follows from the beginning, and the other way round.
use Rattle.std.proofs.Common.{◌≡◌, ℕ, List, ◌≤◌, length}
use Rattle.md_text.specs.Bytes.{is_one_of}
use Rattle.md_reader.specs.Names.{listed}
use Rattle.md_reader.specs.Tests.{test_of}
use Rattle.md_reader.specs.Attributes.{AreAttributes, EndsAttributes, is_unseen}
use Rattle.md_reader.proofs.attributes.past_attributes.Given as goal

abbrev pub invariant-attributes : goal.invariant-attributes
invariant-attributes l =
    ((end : List ℕ)
    → AreAttributes (test_of l.rules).attribute (is_unseen (listed l.list) l.seen) l.rest end
    → AreAttributes (test_of l.rules).attribute (is_one_of (listed l.list)) l.text end)
    × ((end : List ℕ) → EndsAttributes end
    → AreAttributes (test_of l.rules).attribute (is_one_of (listed l.list)) l.text end
    → AreAttributes (test_of l.rules).attribute (is_unseen (listed l.list) l.seen) l.rest end)
    × (length l.rest ≤ length l.text) × (length l.seen ≡ 12)

abbrev pub decreases-attributes : goal.decreases-attributes
decreases-attributes l = length l.rest
