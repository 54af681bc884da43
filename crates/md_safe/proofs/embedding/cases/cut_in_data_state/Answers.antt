-- By computing.
use Rattle.std.proofs.Common.{refl}
use Rattle.md_safe.proofs.embedding.cases.cut_in_data_state.Goals as goal

pub returns-clause-tags : goal.returns-clause-tags
returns-clause-tags c = λ after. record { count = 27; goes = refl }

pub returns-clause-nothing : goal.returns-clause-nothing
returns-clause-nothing c = λ after. record { count = 0; goes = refl }
