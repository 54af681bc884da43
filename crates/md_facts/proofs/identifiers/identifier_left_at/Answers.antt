-- At the entry the same is noticed.
use Rattle.std.proofs.lemmas.Result.{IfOk-weaker}
use Rattle.md_facts.proofs.identifiers.identifier_left_at.Goals as goal

pub returns : goal.returns
returns c =
    IfOk-weaker c.identifier_at.result _ _
    (λ identifier is one there. is one (c.entry_of.ensures.noticed one there))
    c.identifier_at.ensures
