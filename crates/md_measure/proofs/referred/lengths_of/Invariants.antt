-- What is read in the first of the definitions.
use Rattle.std.proofs.Common.{◌≡◌, take}
use Rattle.std.specs.Prelude.{map}
use Rattle.md_length.specs.Reuse.{definition_length}
use Rattle.md_measure.specs.Counting.{capped}
use Rattle.md_measure.proofs.referred.lengths_of.Given as goal

abbrev pub invariant-loop-entry : goal.invariant-loop-entry
invariant-loop-entry l =
    l.lengths.items
    ≡ map (λ entry. capped (definition_length l.events entry)) (take l.entry-index l.entry-items)
