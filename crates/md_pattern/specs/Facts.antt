-- The pass over the events, in order, which finds or infers the facts about each node. Only
-- contracts of private functions cite it.
use Rattle.std.specs.Prelude.{ℕ, suc, Bool, true, false, if◌then◌else◌, List, [], ◌∷◌, ◌++◌, length}
use Rattle.std.specs.Prelude.{reverse, set}
use Rattle.md_base.specs.declared.event.AlignKind.{AlignKind}
use Rattle.md_base.specs.declared.event.Name.{Name}
use Rattle.md_base.specs.declared.event.Name.TheVariants as name_variants
use name_variants.{Paragraph, Data, LineEnding, BlankLineEnding, BlockQuote, BlockQuotePrefix}
use name_variants.{ListItem, ListItemPrefix, GfmFootnoteDefinition, Definition, GfmTable}
use name_variants.{GfmTableDelimiterCellValue, GfmTableDelimiterMarker, SpaceOrTab, Other}
use Rattle.md_base.specs.declared.event.Kind.{Kind}
use Rattle.md_base.specs.declared.event.Kind.TheVariants.{Enter, Exit}
use Rattle.md_base.specs.declared.event.Event.{Event}
use Rattle.md_pattern.specs.declared.summary.Summary.{Summary}
use Rattle.md_pattern.specs.declared.seeking.Sought.{Sought}
use Rattle.md_pattern.specs.declared.facts.Fact.{Fact}
use Rattle.md_pattern.specs.declared.facts.OpenNode.{OpenNode}
use Rattle.md_base.specs.Tree.{Forest, Empty, Node}
use Rattle.md_base.specs.NameTests.{is_transparent, is_item, is_table, is_link_definition}
use Rattle.md_base.specs.NameTests.{contributes}
use Rattle.md_pattern.specs.Partners.{index_after}
use Rattle.md_pattern.specs.Summary.{empty_summary, summary_with, summary_over, looseness}
use Rattle.md_pattern.specs.Seeking.{search_of, seen}
use Rattle.md_pattern.specs.Columns.{Collected, nothing_collected, collects_in, columns_entered}
use Rattle.md_pattern.specs.Columns.{columns_exited}

-- the document itself
abbrev pub document_node : OpenNode
document_node = record {
  entry = 0;
  contributing = 0;
  collects = false;
  sought = search_of Paragraph;
  summary = empty_summary;
}

-- the search on a spine: a new one, or that of the parent if the node is transparent
abbrev pub sought_inside : Name → Sought → Sought
sought_inside name around = if is_transparent name then around else search_of name

-- the search after a node, given the search inside it
abbrev pub sought_after : Name → ℕ → Sought → Sought → Sought
sought_after name entry own around =
    if is_transparent name then own else seen around name entry own.read_at

-- the last contributing child, after one more child
abbrev pub contributing_after : Name → ℕ → ℕ → ℕ
contributing_after name entry before = if contributes name then entry else before

-- a node entered at an index, inside an open node
abbrev pub opened : ℕ → Name → OpenNode → OpenNode
opened entry name around = record {
  entry = entry;
  contributing = 0;
  collects = collects_in name around.collects;
  sought = sought_inside name around.sought;
  summary = empty_summary;
}

-- an open node after one of its children
abbrev pub followed : Name → OpenNode → OpenNode → OpenNode
followed name own around = record {
  entry = around.entry;
  contributing = contributing_after name own.entry around.contributing;
  collects = around.collects;
  sought = sought_after name own.entry own.sought around.sought;
  summary = summary_with name own.summary around.summary;
}

-- where to find what is read of a node: the number of the table, the last contributing child, or
-- the result of the search
abbrev pub read_at_of : Name → ℕ → ℕ → Sought → ℕ
read_at_of name table contributing sought =
    if is_table name then table else (if is_item name then contributing
    else (if is_transparent name then 0 else sought.read_at))

-- a node that, without children, only becomes the last child of its parent
abbrev pub is_simple : Name → Bool
is_simple name = elim name [
  | Data ↦ true
  | LineEnding ↦ true
  | SpaceOrTab ↦ true
  | Other number ↦ true
  | _ ↦ false
]

-- a node of a common name: it contributes, and its parent doesn't examine it further
abbrev pub is_common : Name → Bool
is_common name = elim name [
  | LineEnding ↦ false
  | BlankLineEnding ↦ false
  | BlockQuote ↦ false
  | BlockQuotePrefix ↦ false
  | ListItem ↦ false
  | ListItemPrefix ↦ false
  | GfmFootnoteDefinition ↦ false
  | Definition ↦ false
  | GfmTable ↦ false
  | GfmTableDelimiterCellValue ↦ false
  | GfmTableDelimiterMarker ↦ false
  | SpaceOrTab ↦ false
  | _ ↦ true
]

-- the fact of a node that exits at an index
abbrev pub fact_of : Name → ℕ → ℕ → ℕ → Sought → Summary → Fact
fact_of name exit table contributing sought summary = record {
  partner = exit;
  read_at = read_at_of name table contributing sought;
  looseness = looseness summary;
}

-- the fact at an exit, and at an entry before its exit
abbrev pub partner_alone : ℕ → Fact
partner_alone partner = record {
  partner = partner;
  read_at = 0;
  looseness = record { without_items = false; with_items = false; of_item = false };
}

-- the facts at the events so far, the entries of the definitions that have ended, the innermost
-- open node, and the nodes that contain it, the next one first
pub record PassState : Type 0 where
  pub facts : List Fact
  pub columns : Collected
  pub definitions : List ℕ
  pub here : OpenNode
  pub outer : List OpenNode

-- the state before any event
abbrev pub pass_beginning : PassState
pass_beginning = record {
  facts = [];
  columns = nothing_collected;
  definitions = [];
  here = document_node;
  outer = [];
}

-- the first of some open nodes, and the others
abbrev pub next_outer : List OpenNode → OpenNode
next_outer [] = document_node
next_outer (open_node ∷ others) = open_node

abbrev pub others_outer : List OpenNode → List OpenNode
others_outer [] = []
others_outer (open_node ∷ others) = others

-- the open nodes inside the document, the innermost first, from a list that has it last
abbrev pub opens : List OpenNode → OpenNode → List OpenNode
opens open_nodes document = reverse open_nodes ++ document ∷ []

-- the document, if nothing is left
abbrev pub grounded : List OpenNode → List OpenNode
grounded [] = document_node ∷ []
grounded (open_node ∷ others) = open_node ∷ others

-- the state after the entry of a node
abbrev pub passed_entry : Name → PassState → PassState
passed_entry name pass = record {
  facts = pass.facts ++ partner_alone 0 ∷ [];
  columns = columns_entered name pass.columns;
  definitions = pass.definitions;
  here = opened (length pass.facts) name pass.here;
  outer = pass.here ∷ pass.outer;
}

-- the fact of the innermost open node, which exits
abbrev pub fact_here : Name → PassState → Fact
fact_here name pass =
    fact_of name (length pass.facts) (length pass.columns.tables) pass.here.contributing
    pass.here.sought pass.here.summary

-- the entries of definitions, with the entry of one more node
abbrev pub definitions_with : Name → ℕ → List ℕ → List ℕ
definitions_with name entry definitions =
    definitions ++ (if is_link_definition name then entry ∷ [] else [])

-- the state after the exit of a node
abbrev pub passed_exit : Name → PassState → PassState
passed_exit name pass = record {
  facts =
      set pass.facts pass.here.entry (fact_here name pass) ++ partner_alone pass.here.entry ∷ [];
  columns =
      columns_exited name pass.here.summary (OpenNode.collects (next_outer pass.outer))
      pass.columns;
  definitions = definitions_with name pass.here.entry pass.definitions;
  here = followed name pass.here (next_outer pass.outer);
  outer = others_outer pass.outer;
}

-- the state after an event
abbrev pub passed : Kind → Name → PassState → PassState
passed Enter name pass = passed_entry name pass
passed Exit name pass = passed_exit name pass

-- the state after events, in order
abbrev pub passed_over : List Event → PassState → PassState
passed_over [] pass = pass
passed_over (event ∷ events) pass = passed_over events (passed event.kind event.name pass)

-- the last contributing child after some more nodes
abbrev pub contributing_over : ℕ → Forest → ℕ → ℕ
contributing_over index Empty before = before
contributing_over index (Node name start end children rest) before =
    contributing_over (suc (index_after (suc index) children)) rest
    (contributing_after name index before)

-- a search after some more nodes
abbrev pub sought_over : ℕ → Forest → Sought → Sought
sought_over index Empty sought = sought
sought_over index (Node name start end children rest) sought =
    sought_over (suc (index_after (suc index) children)) rest
    (sought_after name index (sought_over (suc index) children (sought_inside name sought)) sought)

-- an open node after some of its children
abbrev pub followed_over : ℕ → Forest → OpenNode → OpenNode
followed_over index forest here = record {
  entry = here.entry;
  contributing = contributing_over index forest here.contributing;
  collects = here.collects;
  sought = sought_over index forest here.sought;
  summary = summary_over forest here.summary;
}

-- how many tables have ended after a node, and after some nodes
abbrev pub tables_with : Name → ℕ → ℕ
tables_with name tables = if is_table name then suc tables else tables

abbrev pub tables_after : ℕ → Forest → ℕ
tables_after tables Empty = tables
tables_after tables (Node name start end children rest) =
    tables_after (tables_with name (tables_after tables children)) rest

-- the fact of a node that is entered at an index, after so many tables have ended
abbrev pub fact_at : ℕ → ℕ → Name → Forest → Fact
fact_at index tables name children =
    fact_of name (index_after (suc index) children) (tables_after tables children)
    (contributing_over (suc index) children 0)
    (sought_over (suc index) children (search_of name)) (summary_over children empty_summary)

-- the fact at each event of the nodes, in order: the first event has this index, and so many tables
-- have ended before
abbrev pub facts_of : ℕ → ℕ → Forest → List Fact
facts_of index tables Empty = []
facts_of index tables (Node name start end children rest) =
    fact_at index tables name children
    ∷ facts_of (suc index) tables children
    ++ partner_alone index ∷ facts_of (suc (index_after (suc index) children))
    (tables_with name (tables_after tables children)) rest

-- the fact at each event, the alignments of the tables, and the entries of the definitions
abbrev pub facts_at : List Event → List Fact
facts_at events = PassState.facts (passed_over events pass_beginning)

abbrev pub tables_at : List Event → List (List AlignKind)
tables_at events = Collected.tables (PassState.columns (passed_over events pass_beginning))

abbrev pub definitions_at : List Event → List ℕ
definitions_at events = PassState.definitions (passed_over events pass_beginning)
