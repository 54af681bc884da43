-- What is left would be emitted, and isn't.
use Rattle.md_safe.proofs.Between.{tag, value, title, reference}
use Rattle.md_safe.proofs.embedding.cases.cut_in_another_state.Goals as goal

pub returns-clause-tag : goal.returns-clause-tag
returns-clause-tag c = tag

pub returns-clause-value : goal.returns-clause-value
returns-clause-value c = value

pub returns-clause-title : goal.returns-clause-title
returns-clause-title c = title

pub returns-clause-reference : goal.returns-clause-reference
returns-clause-reference c = reference
