-- Finds the alignments of tables, from the first column to the last. Only contracts of private
-- functions cite it.
use Rattle.std.specs.Prelude.{Bool, true, false, ℕ, if◌then◌else◌, List, [], ◌∷◌, ◌++◌, length}
use Rattle.std.specs.Prelude.{take, drop}
use Rattle.md_base.specs.declared.event.AlignKind.{AlignKind}
use Rattle.md_base.specs.declared.event.Name.{Name}
use Rattle.md_base.specs.declared.event.Name.TheVariants as name_variants
use name_variants.{GfmTable, GfmTableHead, GfmTableDelimiterRow, GfmTableDelimiterCellValue}
use name_variants.{BlockQuotePrefix, SpaceOrTab, Other}
use Rattle.md_pattern.specs.declared.columns.Part.{Part}
use Rattle.md_pattern.specs.declared.columns.Part.TheVariants as part
use Rattle.md_pattern.specs.declared.summary.Summary.{Summary}
use Rattle.md_base.specs.Tree.{Forest, Empty, Node}
use Rattle.md_base.specs.NameTests.{is_table}
use Rattle.md_pattern.specs.Alignments.{alignments}
use Rattle.md_pattern.specs.Summary.{alignment}

-- the role of a node in the alignments of a table
abbrev pub part_of : Name → Part
part_of GfmTable = part.Table
part_of GfmTableHead = part.Leads
part_of GfmTableDelimiterRow = part.Leads
part_of GfmTableDelimiterCellValue = part.Value
part_of BlockQuotePrefix = part.Leads
part_of SpaceOrTab = part.Leads
part_of (Other number) = part.Leads
part_of _ = part.Apart

-- a value in a node belongs to the table that contains the node
abbrev pub collects_where : Part → Bool → Bool
collects_where part.Table around = true
collects_where part.Leads around = around
collects_where _ around = false

abbrev pub collects_in : Name → Bool → Bool
collects_in name around = collects_where (part_of name) around

-- the alignments of the tables that have ended, the columns of the open tables, and where the
-- columns of each start, the innermost first
pub record Collected : Type 0 where
  pub tables : List (List AlignKind)
  pub pending : List AlignKind
  pub starts : List ℕ

-- the state before any event
abbrev pub nothing_collected : Collected
nothing_collected = record { tables = []; pending = []; starts = [] }

-- the state after the entry of a node
abbrev pub entered_where : Part → Collected → Collected
entered_where part.Table columns =
    record columns { starts = length columns.pending ∷ columns.starts }
entered_where _ columns = columns

abbrev pub columns_entered : Name → Collected → Collected
columns_entered name columns = entered_where (part_of name) columns

-- the first start, and the others
abbrev pub first_start : List ℕ → ℕ
first_start [] = 0
first_start (start ∷ others) = start

abbrev pub other_starts : List ℕ → List ℕ
other_starts [] = []
other_starts (start ∷ others) = others

-- the state after the exit of a table, and of a value
abbrev pub table_ended : Collected → Collected
table_ended columns = record {
  tables = columns.tables ++ drop (first_start columns.starts) columns.pending ∷ [];
  pending = take (first_start columns.starts) columns.pending;
  starts = other_starts columns.starts;
}

abbrev pub value_ended : AlignKind → Bool → Collected → Collected
value_ended column collects columns = record columns {
  pending = if collects then columns.pending ++ column ∷ [] else columns.pending;
}

-- the state after the exit of a node
abbrev pub exited_where : Part → Summary → Bool → Collected → Collected
exited_where part.Table own collects columns = table_ended columns
exited_where part.Value own collects columns = value_ended (alignment own) collects columns
exited_where _ own collects columns = columns

abbrev pub columns_exited : Name → Summary → Bool → Collected → Collected
columns_exited name own collects columns = exited_where (part_of name) own collects columns

-- the alignments of the tables among some nodes, in the order of their exits
abbrev pub tables_of : Forest → List (List AlignKind)
tables_of Empty = []
tables_of (Node name start end children rest) =
    tables_of children
    ++ ((if is_table name then alignments children ∷ [] else []) ++ tables_of rest)

-- the state after some nodes
abbrev pub columns_after : Forest → Bool → Collected → Collected
columns_after forest collects columns = record {
  tables = columns.tables ++ tables_of forest;
  pending = columns.pending ++ (if collects then alignments forest else []);
  starts = columns.starts;
}
