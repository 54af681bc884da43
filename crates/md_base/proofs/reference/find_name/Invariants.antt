-- The loop over the table: the rest of it has the same entry.
use Rattle.std.proofs.Common.{◌≡◌, drop}
use Rattle.md_base.specs.Reference.{name_table, named}
use Rattle.md_base.proofs.reference.find_name.Given as goal

abbrev pub invariant-loop-entry : goal.invariant-loop-entry
invariant-loop-entry l =
    named (name_table (drop l.entry-index l.names)) l.name ≡ named (name_table l.names) l.name
