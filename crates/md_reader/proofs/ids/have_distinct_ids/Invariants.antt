-- The ids of the rest are new exactly if all are distinct.
use denote.Text.{Utf8}
use denote.Shadow.{shadow}
use Rattle.std.proofs.Common.{◌≡◌, None, [], length}
use Rattle.std.specs.BTreeSet.{contains_text}
use Rattle.md_text.specs.Ids.{are_distinct}
use Rattle.md_reader.specs.ScannedIds.{scanned, are_new}
use Rattle.md_reader.proofs.ids.have_distinct_ids.Given as goal

abbrev pub invariant-loop-before : goal.invariant-loop-before
invariant-loop-before l =
    (are_new (contains_text l.seen) (scanned None [] l.rest)
    ≡ are_distinct (scanned None [] l.text))
    × shadow (Utf8 l.rest)

abbrev pub decreases-loop-before : goal.decreases-loop-before
decreases-loop-before l = length l.rest
