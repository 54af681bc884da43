-- In each iteration, the number says how many definitions remain, and the map has the numbers of
-- the others.
use Rattle.std.proofs.Common.{◌≡◌, ◌++◌, List, length}
use Rattle.md_tree.proofs.Common.{Mentioned, defined, mentions_among, NumbersFrom}
use Rattle.md_tree.proofs.resolve.definitions.Given as goal

abbrev pub invariant-loop-mentioned : goal.invariant-loop-mentioned
invariant-loop-mentioned l =
    (passed : List Mentioned) × (l.mentions ≡ l.rest ++ passed)
    × (l.number ≡ length (defined l.bytes (mentions_among l.rest)))
    × NumbersFrom l.numbers l.number (defined l.bytes (mentions_among passed))

abbrev pub decreases-loop-mentioned : goal.decreases-loop-mentioned
decreases-loop-mentioned l = length l.rest
