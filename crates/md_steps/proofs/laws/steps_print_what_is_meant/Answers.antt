-- By one induction over the document.
use Rattle.md_steps.proofs.Whole.{printed-meant}
use Rattle.md_steps.proofs.laws.steps_print_what_is_meant.Goals as goal

pub returns : goal.returns
returns c = printed-meant
