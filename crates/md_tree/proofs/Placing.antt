-- The entry and its partner give the position of each node of a document. So a look-up by index
-- finds the position in the tree: `reads` of `Checked` depends on it.
use Rattle.std.proofs.Common.{◌≡◌, ℕ, suc, Some, List, [], ◌∷◌, ◌++◌, length, refl, sym, ap, ◌∙◌}
use Rattle.std.proofs.Common.{subst, append_assoc, append-nil, arith}
use Rattle.md_tree.proofs.Common.{slice_get, All, Name, Point, Event, Fact, Forest, Empty, Node}
use Rattle.md_tree.proofs.Common.{flatten, entering, exiting, place, Handed, EntersAt, IsEnteredAt}
use Rattle.md_tree.proofs.Common.{index_after, partner_alone, tables_with, tables_after, fact_at}
use Rattle.md_tree.proofs.Common.{facts_of, facts_at, position_there, position_at, length_one}
use Rattle.md_tree.proofs.Common.{facts-flatten}
use Rattle.md_pattern.proofs.CountedFacts.{length_facts, regrouped}
use Rattle.md_tree.proofs.EventRows.{rows_all, Row, rows_of}
use Rattle.md_tree.proofs.Entering.{get_at, row_at}
use Rattle.md_tree.proofs.Searching.{AllAt}

-- a list with a node's part in it, split at the entry, after it, at the exit and after that
module _ {A : Type 0} (xs before inner rest later : List A) (entry exit : A) (is : xs ≡ before
    ++ ((entry ∷ (inner ++ (exit ∷ rest))) ++ later)) where
  pub at_entry : xs ≡ before ++ (entry ∷ (inner ++ (exit ∷ (rest ++ later))))
  at_entry = is ∙ ap (λ ys. before ++ (entry ∷ ys)) (append_assoc inner _ later)

  pub in_node : xs ≡ (before ++ entry ∷ []) ++ (inner ++ (exit ∷ (rest ++ later)))
  in_node = at_entry ∙ sym (append_assoc before _ _)

  pub got_entry : (n : ℕ) → length before ≡ n → slice_get xs n ≡ Some entry
  got_entry n e = ap (λ ys. slice_get ys n) at_entry ∙ get_at before _ entry n e

  at_exit : xs ≡ ((before ++ entry ∷ []) ++ inner) ++ (exit ∷ (rest ++ later))
  at_exit = in_node ∙ sym (append_assoc _ inner _)

  pub after_node : xs ≡ (((before ++ entry ∷ []) ++ inner) ++ exit ∷ []) ++ (rest ++ later)
  after_node = grind (arith, at_exit, append_assoc)

pub length_events : (forest : Forest) (index : ℕ) (events : List Event) → length events ≡ index →
    length (events ++ flatten forest) ≡ index_after index forest
length_events Empty index events e = ap length (append-nil events) ∙ e
length_events (Node name start end children rest) index events e =
    let first = entering name start in
    let last = exiting name end in
    let inside = length_events children (suc index) (events ++ first ∷ [])
    (length_one events first ∙ ap suc e) in
    ap length (sym (regrouped events _ _ first last)) ∙ length_events rest _
    _ (length_one _ last ∙ ap suc inside)

module _ (events : List Event) (facts : List Fact) where
  node_there : (index : ℕ) (fact : Fact) (name : Name) (start end : Point) →
      slice_get events index ≡ Some (entering name start) → slice_get facts index ≡ Some fact →
      slice_get events fact.partner ≡ Some (exiting name end) →
      position_there events facts index ≡ Some (place start end)
  node_there index fact name start end first found last = grind arith

  all_there : (forest : Forest) (index tables : ℕ) (before later : List Event)
      (found more : List Fact) → length before ≡ index → length found ≡ index →
      events ≡ before ++ (flatten forest ++ later) →
      facts ≡ found ++ (facts_of index tables forest ++ more) →
      AllAt (position_there events facts) index forest
  all_there Empty index tables before later found more e f is are = tt
  all_there (Node name start end children rest) index tables before later found more e f is are =
      let exit = index_after (suc index) children in
      let first = entering name start in
      let last = exiting name end in
      let fact = fact_at index tables name children in
      let other = partner_alone index in
      let ended = tables_with name (tables_after tables children) in
      let inner = flatten children in
      let facts_inside = facts_of (suc index) tables children in
      let facts_after = facts_of (suc exit) ended rest in
      let one = length_one before first ∙ ap suc e in
      let two = length_one found fact ∙ ap suc f in
      let inside = length_events children (suc index) (before ++ first ∷ []) one in
      let facts_to = length_facts children (suc index) tables (found ++ fact ∷ []) two in (
        node_there index fact name start end
            (got_entry events before inner (flatten rest) later first last is index e)
            (got_entry facts found facts_inside facts_after more fact other are index f)
            (ap (λ es. slice_get es exit) (at_exit events before inner _ later first last is)
            ∙ get_at ((before ++ first ∷ []) ++ inner) (flatten rest ++ later) last exit inside),
        all_there children _ tables _ (last ∷ (flatten rest ++ later)) _ (other
            ∷ (facts_after ++ more)) one two (in_node events before inner _ later first last is)
            (in_node facts found facts_inside facts_after more fact other are),
        all_there rest _ ended _ later _ more (length_one _ last
            ∙ ap suc inside) (length_one _ other
            ∙ ap suc facts_to) (after_node events before inner _ later first last is)
            (after_node facts found facts_inside facts_after more fact other are),
      )

-- of no node but the first of all the entry is 0
module _ (events : List Event) (facts : List Fact) where
  all_at : (forest : Forest) (index : ℕ) → AllAt (position_there events facts) (suc index) forest →
      AllAt (position_at events facts) (suc index) forest
  all_at Empty index all = tt
  all_at (Node name start end children rest) index all = grind (arith, all_at children, all_at rest)

-- a row's children are there
abbrev HasThem : List Event → List Fact → Row → Type 0
HasThem events facts row =
    (children : Forest) → row.children ≡ Some children →
    AllAt (position_there events facts) (suc row.index) children

rows_there : (events : List Event) (facts : List Fact) (forest : Forest) (index tables : ℕ) →
    AllAt (position_there events facts) index forest →
    All (HasThem events facts) (rows_of index tables forest)
rows_there events facts forest index tables all =
    rows_all (HasThem events facts)
    (λ index tables nodes. AllAt (position_there events facts) index nodes)
    (λ index tables name start end children rest holds. (
      λ other e. let one : children ≡ other = cc in
          subst (λ nodes. AllAt (position_there events facts) (suc index) nodes) one holds.1,
      λ other e. cc,
      holds.1,
      holds.2,
    )) forest index tables all

-- the children of the node that the event at an index enters
pub children-placed : (given : Handed) (index : ℕ) (name : Name) →
    EntersAt given.events index name → (children : Forest) → IsEnteredAt given index children →
    AllAt (position_at given.events (facts_at given.events)) (suc index) children
children-placed given index name enters children entered =
    let forest = entered.0 in
    let events = given.events in
    let facts = facts_at events in
    let here = row_at given forest index enters.0 entered.1 enters.1 in
    let all = all_there events facts forest 0 0 [] [] [] [] refl refl (sym entered.1
    ∙ sym (append-nil _)) (facts-flatten forest events entered.1 ∙ sym (append-nil _)) in
    let children_are : here.row.children ≡ Some children = cc (here.children_are, entered.2) in
    let there = here.said (HasThem events facts) (rows_there events facts forest 0 0 all)
    children children_are in
    all_at events facts children index (rw here.index_is at there)
