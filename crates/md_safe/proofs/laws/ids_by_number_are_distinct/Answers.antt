-- By one induction over the document, for each id: it occurs there at most as often as calls have
-- it.
use Rattle.md_safe.proofs.WholeIds.{distinct-ids}
use Rattle.md_safe.proofs.laws.ids_by_number_are_distinct.Goals as goal

pub returns : goal.returns
returns c = distinct-ids
