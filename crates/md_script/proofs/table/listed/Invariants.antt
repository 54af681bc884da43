-- In each iteration, the value of the text in the remaining entries is its value in the whole
-- table.
use Rattle.std.proofs.Common.{◌≡◌, drop}
use Rattle.md_base.specs.Table.{entries_of, listed}
use Rattle.md_script.proofs.table.listed.Given as goal

abbrev pub invariant-loop-entry : goal.invariant-loop-entry
invariant-loop-entry g l =
    listed (entries_of (drop l.entry-index l.table)) l.text ≡ listed (entries_of l.table) l.text
