-- An id that both have determines the prefix of both, unless it is that of the heading.
use Rattle.md_safe.proofs.WholeIds.{apart}
use Rattle.md_safe.proofs.laws.ids_of_two_documents_are_apart.Goals as goal

pub returns : goal.returns
returns c = apart
