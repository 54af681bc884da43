-- By the node, its role and the symbol before it.
use Rattle.md_content.proofs.Grammatical.{grammatical-built}
use Rattle.md_content.proofs.laws.grammatical_documents_are_built.Goals as goal

pub returns : goal.returns
returns c = grammatical-built
