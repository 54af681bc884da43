-- The index is one of a fact, the fact's place is one of a table, and the alignments there are
-- those of the node. The search doesn't know what a `Checked` keeps: `Kept` says it.
use Rattle.std.proofs.Common.{◌≡◌, ◌<◌, Option, Some, List, length, sym, ap, ◌∙◌, subst}
use Rattle.md_tree.proofs.Common.{map, slice_get, AlignKind, GfmTable}
use Rattle.md_tree.proofs.Kept.{facts-inside, node-entered, columns-kept, columns-inside}
use Rattle.md_tree.proofs.checked.Checked.columns.Goals as goal

pub fact_at-requires : goal.fact_at-requires
fact_at-requires c =
    facts-inside c.self.inside c.args.self.now c.args.index c.self.invariant c.self.view_is
    (GfmTable, c.requires)

pub table_at-requires : goal.table_at-requires
table_at-requires c =
    subst (λ xs. c.fact_at.result.read_at < length xs) (sym c.deref.ensures.value)
    (columns-inside c.self.inside c.args.self.now c.args.index c.self.invariant
    c.self.view_is c.requires c.fact_at.result c.fact_at.ensures)

pub returns-clause-entered : goal.returns-clause-entered
returns-clause-entered c =
    node-entered c.self.inside c.args.self.now c.args.index c.self.invariant c.self.view_is
    (GfmTable, c.requires)

one_some : (o : Option (List AlignKind)) (x y : List AlignKind) → o ≡ Some x → o ≡ Some y → x ≡ y
one_some o x y e f = cc

pub returns-clause-aligned : goal.returns-clause-aligned
returns-clause-aligned c = λ children entered. one_some _ c.table_at.result.now _
    (ap (λ xs. slice_get (map (λ t. t.items) xs) c.fact_at.result.read_at)
    (sym c.deref.ensures.value) ∙ c.table_at.ensures) (columns-kept c.self.inside c.args.self.now
    c.args.index c.self.invariant c.self.view_is c.requires
    c.fact_at.result c.fact_at.ensures children entered)
