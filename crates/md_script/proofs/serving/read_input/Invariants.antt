-- What was read is what the reader gave; there is room for more.
use Rattle.std.proofs.Common.{◌<◌, length}
use Rattle.std.specs.Io.KnownBytes.{Consumes}
use Rattle.md_script.proofs.serving.read_input.Given as goal

abbrev pub invariant-loop : goal.invariant-loop
invariant-loop g l =
    Consumes (g.R.Read.remaining l.initial.reader) (g.R.Read.remaining l.reader) l.input.items
    × (0 < length l.buffer.items)
