-- A node without children, which exits right after its entry.
use Rattle.std.proofs.Common.{arith, ◌≡◌, ℕ, ◌+◌, false, List, [], ◌∷◌, ◌++◌, length, ap}
use Rattle.std.specs.Prelude.{set}
use Rattle.std.proofs.Math.Seq.{set-append_seam}
use Rattle.std.proofs.lemmas.List.{length-append}
use Rattle.md_base.specs.declared.event.Name.{Name}
use Rattle.md_pattern.specs.declared.seeking.Sought.{Sought}
use Rattle.md_pattern.specs.declared.facts.Fact.{Fact}
use Rattle.md_pattern.specs.declared.facts.OpenNode.{OpenNode}
use Rattle.md_base.specs.NameTests.{is_table}
use Rattle.md_pattern.specs.Summary.{empty_summary}
use Rattle.md_pattern.specs.Columns.{Collected, columns_entered, columns_exited}
use Rattle.md_pattern.specs.Facts.{PassState, sought_inside, opened, followed, fact_of}
use Rattle.md_pattern.specs.Facts.{partner_alone, definitions_with, passed_entry, passed_exit}

-- a node that is no table begins no columns, and its fact is its partner alone
plain-entered : (name : Name) (columns : Collected) → is_table name ≡ false →
    columns_entered name columns ≡ columns
plain-entered name columns plain = grind arith

plain-fact : (name : Name) (exit table : ℕ) (around : Sought) → is_table name ≡ false →
    partner_alone exit ≡ fact_of name exit table 0 (sought_inside name around) empty_summary
plain-fact name exit table around plain = grind arith

-- the facts after such a node
abbrev pub after_leaf : Name → PassState → PassState
after_leaf name pass = record {
  facts = (pass.facts ++ fact_of name (length pass.facts + 1)
      (length (Collected.tables (columns_entered name pass.columns))) 0
      (sought_inside name (OpenNode.sought pass.here)) empty_summary ∷ [])
      ++ partner_alone (length pass.facts) ∷ [];
  columns = columns_exited name empty_summary (OpenNode.collects pass.here)
      (columns_entered name pass.columns);
  definitions = definitions_with name (length pass.facts) pass.definitions;
  here = followed name (opened (length pass.facts) name pass.here) pass.here;
  outer = pass.outer;
}

facts-leaf : (found : List Fact) (alone : Fact) (at : ℕ → Fact) →
    found ++ at (length found + 1) ∷ []
    ≡ set (found ++ alone ∷ []) (length found) (at (length (found ++ alone ∷ [])))
facts-leaf found alone at = grind (arith, set-append_seam, length-append)

pub passed-leaf : (name : Name) (pass : PassState) →
    after_leaf name pass ≡ passed_exit name (passed_entry name pass)
passed-leaf name pass =
    ap (λ fs.
    record (after_leaf name pass) { facts = fs ++ partner_alone (length pass.facts) ∷ [] })
    (facts-leaf pass.facts (partner_alone 0) (λ exit. fact_of name exit (length (Collected.tables
    (columns_entered name pass.columns))) 0 (sought_inside name (OpenNode.sought pass.here))
    empty_summary))

-- the same, by what each step gave
pub passed-leaf_by :
    (name : Name) (pass : PassState) (entry : ℕ) (here : OpenNode) (columns : Collected)
    (once twice : List Fact) (definitions : List ℕ) → is_table name ≡ false →
    entry ≡ length pass.facts →
    once ≡ pass.facts ++ partner_alone (entry + 1) ∷ [] → twice ≡ once ++ partner_alone entry ∷ [] →
    columns ≡ columns_exited name empty_summary (OpenNode.collects pass.here) pass.columns →
    definitions ≡ definitions_with name entry pass.definitions →
    here ≡ followed name (opened entry name pass.here) pass.here →
    record {
      facts = twice;
      columns = columns;
      definitions = definitions;
      here = here;
      outer = pass.outer;
    }
    ≡ passed_exit name (passed_entry name pass)
passed-leaf_by name pass entry here columns once twice definitions plain e1 e5 e6 e7 e8 e9 =
    grind (arith, plain-fact, plain-entered, passed-leaf)
