-- The law is a lemma of `Tables`: in a table's shape the values stand only where the
-- alignments look for them.
use Rattle.md_tree.proofs.Tables.{alignments-values_of_table}
use Rattle.md_tree.proofs.laws.one_alignment_for_each_cell_value.Goals as goal

pub returns : goal.returns
returns c = alignments-values_of_table
