-- No protocol, or one of these.
use Rattle.std.proofs.Common.{sym, ◌∙◌, ap, not}
use Rattle.md_text.specs.References.{read_back}
use Rattle.md_reader.proofs.Permitting.{permitted-none, permitted-some}
use Rattle.md_reader.proofs.protocol.has_permitted_protocol.Goals as goal

pub returns-then-not-has_protocol : goal.returns-then-not-has_protocol
returns-then-not-has_protocol c = ap not c.if-not-has_protocol.true
    ∙ sym (permitted-none c.args.protocols.now (read_back c.args.value.now)
    (sym c.has_protocol.ensures ∙ c.if-not-has_protocol.true))

pub returns-else-not-has_protocol : goal.returns-else-not-has_protocol
returns-else-not-has_protocol c = c.has_one_of.ensures
    ∙ sym (permitted-some c.args.protocols.now (read_back c.args.value.now)
    (sym c.has_protocol.ensures ∙ c.if-not-has_protocol.false))
