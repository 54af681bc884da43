-- What is left of the value has what is left of the protocol.
use Rattle.std.proofs.Common.{◌≡◌, length}
use Rattle.md_text.specs.References.{read_back}
use Rattle.md_reader.specs.Named.{has_this_protocol}
use Rattle.md_reader.proofs.protocol.has_this_protocol.Given as goal

abbrev pub invariant-characters : goal.invariant-characters
invariant-characters l = has_this_protocol l.name (read_back l.rest)
    ≡ has_this_protocol l.protocol (read_back l.value)

abbrev pub decreases-characters : goal.decreases-characters
decreases-characters l = length l.name
