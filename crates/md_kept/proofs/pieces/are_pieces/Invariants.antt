-- What follows from here follows from the beginning.
use Rattle.std.proofs.Common.{length}
use Rattle.md_kept.specs.Pieces.{ArePieces}
use Rattle.md_kept.proofs.pieces.are_pieces.Given as goal

abbrev pub invariant-events : goal.invariant-events
invariant-events l = ArePieces l.bytes l.at l.rest → ArePieces l.bytes l.from l.events

abbrev pub decreases-events : goal.decreases-events
decreases-events l = length l.rest
