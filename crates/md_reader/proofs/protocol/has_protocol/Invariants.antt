-- The rest has a protocol where the value has one.
use Rattle.std.proofs.Common.{◌≡◌, length}
use Rattle.std.specs.Prelude.{is_some}
use Rattle.md_text.specs.References.{read_back}
use Rattle.md_text.specs.Url.{protocol_of}
use Rattle.md_reader.proofs.protocol.has_protocol.Given as goal

abbrev pub invariant-characters : goal.invariant-characters
invariant-characters l =
    is_some (protocol_of (read_back l.rest)) ≡ is_some (protocol_of (read_back l.value))

abbrev pub decreases-characters : goal.decreases-characters
decreases-characters l = length l.rest
