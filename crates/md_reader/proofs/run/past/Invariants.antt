-- What follows the whole beginning follows what is left of it.
use Rattle.std.proofs.Common.{◌≡◌, ◌+◌, ◌++◌, ℕ, List, length}
use Rattle.md_reader.proofs.run.past.Given as goal

abbrev pub invariant-bytes : goal.invariant-bytes
invariant-bytes l =
    ((after : List ℕ) → l.rest ≡ l.start ++ after → l.text ≡ l.fn.start ++ after)
    × ((after : List ℕ) → l.text ≡ l.fn.start ++ after → l.rest ≡ l.start ++ after)
    × (length l.rest + length l.fn.start ≡ length l.text + length l.start)

abbrev pub decreases-bytes : goal.decreases-bytes
decreases-bytes l = length l.start
