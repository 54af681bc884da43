-- Where memory is there, the copy has the table's alignments, and one for each value of
-- its delimiter row. The search doesn't go into the answer, nor know that the table has
-- a table's shape.
use Rattle.std.proofs.Common.{◌∙◌}
use Rattle.std.specs.Prelude.{Result, IfOk}
use Rattle.md_tree.proofs.Common.{Ok, Err}
use Rattle.md_tree.proofs.Tables.{alignments-values_of_table, IsTable-entered}
use Rattle.md_tree.proofs.infer.gfm_table_align.Goals as goal

-- a claim of what is in an answer
on_answer : {A E : Type 0} (P Q : A → Type 0) → ((a : A) → P a → Q a) →
    (result : Result A E) → IfOk result P → IfOk result Q
on_answer P Q f (Ok a) p = f a p
on_answer P Q f (Err e) p = tt

pub returns-clause-aligned : goal.returns-clause-aligned
returns-clause-aligned c =
    on_answer _ _ (λ columns items children entered. items
    ∙ c.columns.ensures.aligned children entered) c.from_slice.result c.from_slice.ensures.items

pub returns-clause-one_for_each_value : goal.returns-clause-one_for_each_value
returns-clause-one_for_each_value c =
    on_answer _ _
    (λ columns items children entered. items ∙ c.columns.ensures.aligned children entered
    ∙ alignments-values_of_table children (IsTable-entered c.args.checked.now c.args.index
    c.columns.ensures.grammatical c.requires children entered)) c.from_slice.result
    c.from_slice.ensures.items
