-- Node after node.
use Rattle.md_safe.proofs.ForestLeads.{reading-ends}
use Rattle.md_safe.proofs.embedding.reading_ends_in_data_state.Goals as goal

pub returns-clause-reading : goal.returns-clause-reading
returns-clause-reading c = reading-ends

pub returns-clause-safe : goal.returns-clause-safe
returns-clause-safe c = λ text safe. reading-ends text safe.as_read.forest safe.as_read.reading
