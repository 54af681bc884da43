-- The pass from the first event to the last finds what is defined of a forest's nodes.
use Rattle.std.proofs.Common.{arith, ◌≡◌, ℕ, suc, ◌+◌, ◌<◌, add-one, get_or, cond, List, [], ◌∷◌}
use Rattle.std.proofs.Common.{◌++◌, length, take, refl, ap, sym, ◌∙◌, append_assoc, append-nil}
use Rattle.std.proofs.Math.Seq.{take-suc}
use Rattle.std.proofs.lemmas.List.{set_at}
use Rattle.md_base.specs.declared.event.Name.{Name}
use Rattle.md_base.specs.declared.event.Name.TheVariants.{GfmTableDelimiterCellValue}
use Rattle.md_base.specs.declared.event.Event.{Event}
use Rattle.md_pattern.specs.declared.summary.Summary.{Summary}
use Rattle.md_pattern.specs.declared.seeking.Sought.{Sought}
use Rattle.md_pattern.specs.declared.facts.Fact.{Fact}
use Rattle.md_pattern.specs.declared.facts.OpenNode.{OpenNode}
use Rattle.md_base.specs.Tree.{Forest, Empty, Node, flatten, exiting}
use Rattle.md_base.specs.NameTests.{is_table, is_link_definition, leads_to_values}
use Rattle.md_base.specs.Is.{is}
use Rattle.md_pattern.specs.Alignments.{alignments}
use Rattle.md_pattern.specs.Partners.{index_after, definition_entries}
use Rattle.md_pattern.specs.Seeking.{search_of}
use Rattle.md_pattern.specs.Columns.{Collected, part_of, columns_entered, tables_of, columns_after}
use Rattle.md_pattern.specs.Facts.{PassState, pass_beginning, sought_inside, opened, followed}
use Rattle.md_pattern.specs.Facts.{fact_of, partner_alone, passed_exit, passed, passed_over}
use Rattle.md_pattern.specs.Facts.{sought_over, followed_over, tables_with}
use Rattle.md_pattern.specs.Facts.{tables_after, fact_at, facts_of}
use Rattle.md_pattern.proofs.ColumnsAdded.{columns_next, columns_node, entered_tables, added}
use Rattle.md_pattern.proofs.ColumnsAdded.{both_made, cond-nil, columns_rest}
use Rattle.md_pattern.proofs.CountedFacts.{length_one, length_facts, length_tables, regrouped}
use Rattle.md_pattern.proofs.CountedFacts.{length_table}

-- ---- a node's fact
fact_same : (name : Name) (exit tables contributing index : ℕ) (children : Forest)
    (sought : Sought) (summary : Summary) →
    fact_of name exit tables contributing (sought_over index children (sought_inside name sought))
    summary ≡ fact_of name exit tables contributing (sought_over index children (search_of name))
    summary
fact_same name exit tables contributing index children sought summary = grind arith

-- ---- the pass
abbrev state : List OpenNode → OpenNode → List ℕ → List Fact → Collected → PassState
state outer here definitions facts columns = record {
  facts = facts;
  columns = columns;
  definitions = definitions;
  here = here;
  outer = outer;
}

passed_over-append : (xs ys : List Event) (pass : PassState) →
    passed_over (xs ++ ys) pass ≡ passed_over ys (passed_over xs pass)
passed_over-append [] ys pass = refl
passed_over-append (x ∷ xs) ys pass = passed_over-append xs ys (passed x.kind x.name pass)

-- some nodes after what is found so far
abbrev passed_forest : ℕ → ℕ → Forest → PassState → PassState
passed_forest index tables forest pass = record {
  facts = pass.facts ++ facts_of index tables forest;
  columns = columns_after forest pass.here.collects pass.columns;
  definitions = pass.definitions ++ definition_entries index forest;
  here = followed_over index forest pass.here;
  outer = pass.outer;
}

-- a node that is entered, and one that has ended
abbrev inside_node : ℕ → Name → PassState → PassState
inside_node index name pass = record {
  facts = pass.facts ++ partner_alone 0 ∷ [];
  columns = columns_entered name pass.columns;
  definitions = pass.definitions;
  here = opened index name pass.here;
  outer = pass.here ∷ pass.outer;
}

abbrev after_node : ℕ → ℕ → Name → Forest → PassState → PassState
after_node index tables name children pass = record {
  facts = ((pass.facts ++ fact_at index tables name children ∷ [])
      ++ facts_of (suc index) tables children) ++ partner_alone index ∷ [];
  columns = columns_next (is_table name) (is GfmTableDelimiterCellValue name)
      (leads_to_values name) children pass.here.collects pass.columns;
  definitions = (pass.definitions ++ definition_entries (suc index) children)
      ++ cond (is_link_definition name) (index ∷ []) [];
  here = followed name (followed_over (suc index) children (opened index name pass.here)) pass.here;
  outer = pass.outer;
}

exit_after : (index tables : ℕ) (name : Name) (children : Forest) (pass : PassState) →
    length pass.facts ≡ index →
    length pass.columns.tables ≡ tables → passed_exit name
    (passed_forest (suc index) tables children (inside_node index name pass))
    ≡ after_node index tables name children pass
exit_after index tables name children pass e t =
    grind (
      arith,
      length_facts,
      length_one,
      length_tables,
      fact_same,
      append_assoc,
      set_at,
      columns_node,
    )

definitions_joined : (a b c d : List ℕ) → ((a ++ b) ++ c) ++ d ≡ a ++ (b ++ (c ++ d))
definitions_joined a b c d = append_assoc (a ++ b) c d ∙ append_assoc a b (c ++ d)

pub passed_over-flatten : (forest : Forest) (index tables : ℕ) (pass : PassState) →
    length pass.facts ≡ index →
    length pass.columns.tables ≡ tables →
    passed_over (flatten forest) pass ≡ passed_forest index tables forest pass
passed_over-flatten Empty index tables pass e t = grind (arith, append-nil, both_made, cond-nil)
passed_over-flatten (Node name start end children rest) index tables pass e t =
    let exit = index_after (suc index) children in
    let more = tables_with name (tables_after tables children) in
    let inner = facts_of (suc index) tables children in
    let fact = fact_at index tables name children in
    let last = exiting name end ∷ flatten rest in
    let entered = inside_node index name pass in
    let after_it = after_node index tables name children pass in
    let own = cond (is_table name) (alignments children ∷ []) [] in
    let all_here = followed_over index (Node name start end children rest) pass.here in
    let all_defined =
    pass.definitions ++ definition_entries index (Node name start end children rest) in
    let length_after : length after_it.facts ≡ suc exit =
    length_one ((pass.facts ++ fact ∷ []) ++ inner) (partner_alone index)
    ∙ ap suc (length_facts children (suc index) tables (pass.facts ++ fact ∷ [])
    (length_one pass.facts fact ∙ ap suc e)) in
    let tables_after_it : length after_it.columns.tables ≡ more =
    ap length (sym (append_assoc pass.columns.tables (tables_of children) own))
    ∙ length_table name (pass.columns.tables ++ tables_of children) (alignments children)
    (tables_after tables children) (length_tables children tables pass.columns.tables t) in
    ap (λ i. passed_over (flatten children ++ last) (inside_node i name pass)) e
    ∙ passed_over-append (flatten children) last entered
    ∙ ap (λ p. passed_over last p) (passed_over-flatten children (suc index) tables entered
    (length_one pass.facts (partner_alone 0) ∙ ap suc e)
    (ap length (entered_tables (part_of name) pass.columns) ∙ t))
    ∙ ap (λ p. passed_over (flatten rest) p) (exit_after index tables name children pass e t)
    ∙ passed_over-flatten rest (suc exit) more after_it length_after tables_after_it
    ∙ ap (λ ds. state pass.outer all_here ds (after_it.facts
    ++ facts_of (suc exit) more rest) (columns_after rest pass.here.collects after_it.columns))
    (definitions_joined pass.definitions (definition_entries (suc index) children)
    (cond (is_link_definition name) (index ∷ []) []) (definition_entries (suc exit) rest))
    ∙ ap (λ fs. state pass.outer all_here all_defined fs
    (columns_after rest pass.here.collects after_it.columns))
    (regrouped pass.facts inner (facts_of (suc exit) more rest) fact (partner_alone index))
    ∙ ap (λ columns. state pass.outer all_here all_defined (pass.facts
    ++ facts_of index tables (Node name start end children rest)) columns) (columns_rest name
    children rest own (added (is GfmTableDelimiterCellValue name) (leads_to_values name) children)
    pass.here.collects pass.columns)

-- one more event
pub passed_more : (events : List Event) (index : ℕ) (d : Event) (pass before next : PassState) →
    index < length events →
    pass ≡ passed_over (take index events) before → next
    ≡ passed (Event.kind (get_or events index d)) (Event.name (get_or events index d)) pass →
    next ≡ passed_over (take (index + 1) events) before
passed_more events index d pass before next inside so_far step =
    let last = take-suc events index d inside in
    let more = passed_over-append (take index events) (get_or events index d ∷ []) before in
    rw add-one (cc (last, more))

-- from the first event on
pub facts-flatten : (forest : Forest) (events : List Event) → flatten forest ≡ events →
    PassState.facts (passed_over events pass_beginning) ≡ facts_of 0 0 forest
facts-flatten forest events e =
    let all = passed_over-flatten forest 0 0 pass_beginning refl refl in cc all

pub tables-flatten : (forest : Forest) (events : List Event) → flatten forest ≡ events →
    Collected.tables (PassState.columns (passed_over events pass_beginning)) ≡ tables_of forest
tables-flatten forest events e =
    let all = passed_over-flatten forest 0 0 pass_beginning refl refl in cc all

pub definitions-flatten : (forest : Forest) (events : List Event) → flatten forest ≡ events →
    PassState.definitions (passed_over events pass_beginning) ≡ definition_entries 0 forest
definitions-flatten forest events e =
    let all = passed_over-flatten forest 0 0 pass_beginning refl refl in cc all
