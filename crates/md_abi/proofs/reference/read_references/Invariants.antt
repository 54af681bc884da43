-- In each iteration, the converted names, followed by those that the rest encodes, are those that
-- the whole encodes.
use Rattle.std.proofs.Common.{◌≡◌, ◌++◌, map, drop, Some}
use Rattle.md_base.specs.Reference.{name_table}
use Rattle.md_abi.specs.References.{reference_of}
use Rattle.md_abi.proofs.reference.read_references.Given as goal

-- the converted references, then the rest, are the whole
abbrev pub invariant-loop-reference : goal.invariant-loop-reference
invariant-loop-reference l =
    map Some (name_table l.read.items) ++ map reference_of (drop l.reference-index l.references)
    ≡ map reference_of l.references
