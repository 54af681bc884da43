-- What is counted of a document. No contract of a call for users cites these.
use Rattle.std.specs.Prelude.{◌≡◌, ℕ, List, map}
use Rattle.md_base.specs.Tree.{Forest, flatten}
use Rattle.md_tree.specs.Grammar.{Handed}
use Rattle.md_length.specs.Reuse.{definition_lengths}
use Rattle.md_measure.specs.Counting.{capped}

-- this is the count of the document that the events flatten, or the greatest number
abbrev pub IsCounted : (Forest → ℕ) → Handed → ℕ → Type 0
IsCounted count given counted =
    (document : Forest) → flatten document ≡ given.events → counted ≡ capped (count document)

-- these are the lengths of its definitions, each one or the greatest number
abbrev pub AreLengths : Handed → List ℕ → Type 0
AreLengths given lengths =
    (document : Forest) → flatten document ≡ given.events →
    lengths ≡ map capped (definition_lengths document)
