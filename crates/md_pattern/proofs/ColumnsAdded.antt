-- The columns that a node adds to those of the tables around it, as the pass collects them.
use Rattle.std.proofs.Common.{arith, ◌≡◌, ℕ, Bool, true, false, cond, List, [], ◌∷◌, ◌++◌}
use Rattle.std.proofs.Common.{append_assoc, append-nil}
use Rattle.std.proofs.lemmas.List.{take_at, drop_at}
use Rattle.md_base.specs.declared.event.AlignKind.{AlignKind}
use Rattle.md_base.specs.declared.event.Name.{Name}
use Rattle.md_base.specs.declared.event.Name.TheVariants.{GfmTableDelimiterCellValue}
use Rattle.md_pattern.specs.declared.columns.Part.{Part}
use Rattle.md_pattern.specs.declared.columns.Part.TheVariants as part
use Rattle.md_base.specs.Tree.{Forest}
use Rattle.md_base.specs.NameTests.{is_table, leads_to_values}
use Rattle.md_base.specs.Is.{is}
use Rattle.md_pattern.specs.Alignments.{alignment_of, alignments}
use Rattle.md_pattern.specs.Summary.{empty_summary, summary_over}
use Rattle.md_pattern.specs.Columns.{Collected, part_of, collects_where, collects_in, entered_where}
use Rattle.md_pattern.specs.Columns.{columns_entered, exited_where, columns_exited, tables_of}
use Rattle.md_pattern.specs.Columns.{columns_after}
use Rattle.md_pattern.proofs.Summaries.{alignment-summary}

abbrev is_table_part : Part → Bool
is_table_part part.Table = true
is_table_part _ = false

abbrev is_value_part : Part → Bool
is_value_part part.Value = true
is_value_part _ = false

abbrev is_leads_part : Part → Bool
is_leads_part part.Leads = true
is_leads_part _ = false

record Parted (name : Name) : Type 0 where
  table : is_table_part (part_of name) ≡ is_table name
  value : is_value_part (part_of name) ≡ is GfmTableDelimiterCellValue name
  leads : is_leads_part (part_of name) ≡ leads_to_values name

parted : (name : Name) → Parted name
parted name = grind arith

-- the columns that a node adds to those of the table around it
abbrev pub added : Bool → Bool → Forest → List AlignKind
added value leads children =
    cond value (alignment_of children ∷ []) (cond leads (alignments children) [])

-- what is collected after a node
abbrev pub columns_next : Bool → Bool → Bool → Forest → Bool → Collected → Collected
columns_next table value leads children collects columns = record {
  tables = columns.tables ++ (tables_of children ++ cond table (alignments children ∷ []) []);
  pending = columns.pending ++ cond collects (added value leads children) [];
  starts = columns.starts;
}

abbrev pub made : List ℕ → List (List AlignKind) → List AlignKind → Collected
made starts tables pending = record { tables = tables; pending = pending; starts = starts }

pub both_made :
    (starts : List ℕ) (tables others : List (List AlignKind)) (pending more : List AlignKind) →
    tables ≡ others → pending ≡ more → made starts tables pending ≡ made starts others more
both_made starts tables others pending more a b = grind arith

pub cond-nil : (collects : Bool) (none : List AlignKind) → cond collects none none ≡ none
cond-nil collects none = grind arith

columns_part : (p : Part) (children : Forest) (collects : Bool) (columns : Collected) →
    exited_where p (summary_over children empty_summary) collects
    (columns_after children (collects_where p collects) (entered_where p columns))
    ≡ columns_next (is_table_part p) (is_value_part p) (is_leads_part p) children collects columns
columns_part p children collects columns =
    grind (
      arith,
      both_made,
      append_assoc,
      drop_at,
      take_at,
      append-nil,
      cond-nil,
      alignment-summary,
    )

pub columns_node : (name : Name) (children : Forest) (collects : Bool) (columns : Collected) →
    columns_exited name (summary_over children empty_summary) collects
    (columns_after children (collects_in name collects) (columns_entered name columns))
    ≡ columns_next (is_table name) (is GfmTableDelimiterCellValue name) (leads_to_values name)
    children collects columns
columns_node name children collects columns = grind (arith, parted, columns_part)

pub columns_rest : (name : Name) (children rest : Forest) (tables : List (List AlignKind))
    (own : List AlignKind) (collects : Bool) (columns : Collected) → columns_after rest collects
    (record {
      tables = columns.tables ++ (tables_of children ++ tables);
      pending = columns.pending ++ cond collects own [];
      starts = columns.starts;
    })
    ≡ record {
      tables = columns.tables ++ (tables_of children ++ (tables ++ tables_of rest));
      pending = columns.pending ++ cond collects (own ++ alignments rest) [];
      starts = columns.starts;
    }
columns_rest name children rest tables own collects columns = grind (arith, both_made, append_assoc)

pub entered_tables : (p : Part) (columns : Collected) →
    Collected.tables (entered_where p columns) ≡ columns.tables
entered_tables p columns = grind arith
