-- None so far is the value's protocol.
use Rattle.std.proofs.Common.{◌≡◌, take, false}
use Rattle.std.specs.List.{list_any}
use Rattle.md_text.specs.References.{read_back}
use Rattle.md_reader.specs.Named.{has_this_protocol}
use Rattle.md_reader.proofs.protocol.has_one_of.Given as goal

abbrev pub invariant-loop-protocol : goal.invariant-loop-protocol
invariant-loop-protocol l =
    list_any (λ protocol. has_this_protocol protocol.now (read_back l.value))
    (take l.protocol-index l.protocols) ≡ false
