-- The normalized text of the label is the identifier.
use Rattle.std.proofs.Common.{sym, ap, ◌∙◌}
use Rattle.md_meaning.specs.Places.{identifier_at}
use Rattle.std.proofs.lemmas.Result.{IfOk-weaker}
use Rattle.md_facts.proofs.identifiers.identifier_at.Goals as goal

pub returns : goal.returns
returns c =
    IfOk-weaker c.identifier_of.result _ _ (λ identifier is one there.
    is ∙ ap (λ bytes. identifier_at bytes c.label_read_at.result) c.bytes.ensures
    ∙ sym (c.label_read_at.ensures one there)) c.identifier_of.ensures
