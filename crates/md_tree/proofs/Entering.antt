-- What stands at an index of a document's events is what the tree says of the node that is entered
-- there.
use Rattle.std.proofs.Common.{◌≡◌, ℕ, ◌+◌, ◌<◌, true, cond, Some, List, [], ◌∷◌, ◌++◌, length}
use Rattle.std.proofs.Common.{get_or, refl, sym, ap, ◌∙◌, subst, append_assoc, append-nil, arith}
use Rattle.md_tree.proofs.Common.{positions_of, slice_get_within, map, option_map, slice_get, All}
use Rattle.md_tree.proofs.Common.{map-append, length-map, slice_get-get_or, slice_get-map}
use Rattle.md_tree.proofs.Common.{AlignKind, Point, Name, Enter, Event, Fact, Forest, Empty, Node}
use Rattle.md_tree.proofs.Common.{flatten, entering, is_table, alignments, Handed, EntersAt}
use Rattle.md_tree.proofs.Common.{children_of, IsEnteredAt, EntersNode, index_after, tables_after}
use Rattle.md_tree.proofs.Common.{fact_at, facts_of, facts_at, tables_at, facts-flatten}
use Rattle.md_pattern.specs.Partners.{partners_of}
use Rattle.md_pattern.specs.Columns.{tables_of}
use Rattle.md_pattern.proofs.CountedFacts.{length_table, length_tables}
use Rattle.md_pattern.proofs.Passing.{tables-flatten}
use Rattle.md_tree.proofs.EventRows.{position_rows, rows_all, Row, entry_row, rows_of, event_rows}
use Rattle.md_tree.proofs.EventRows.{children_rows, fact_rows, numbered_rows, numbered_get}

-- what is found at an entry, with the alignments of the tables
abbrev pub IsFound : List (List AlignKind) → Row → Type 0
IsFound ended row =
    (children : Forest) → row.children ≡ Some children →
    (tables : ℕ) × (row.fact ≡ fact_at row.index tables row.event.name children)
    × (is_table row.event.name ≡ true →
    slice_get ended (tables_after tables children) ≡ Some (alignments children))

pub get_at : {A : Type 0} (xs ys : List A) (y : A) (n : ℕ) → length xs ≡ n →
    slice_get (xs ++ y ∷ ys) n ≡ Some y
get_at [] ys y n e = subst (λ i. slice_get (y ∷ ys) i ≡ Some y) e refl
get_at (x ∷ xs) ys y n e = grind (arith, get_at xs)

table_there : (name : Name) (before later : List (List AlignKind)) (own : List AlignKind) (n : ℕ) →
    length before ≡ n → is_table name ≡ true →
    slice_get (before ++ (cond (is_table name) (own ∷ []) [] ++ later)) n ≡ Some own
table_there name before later own n e is = grind (arith, get_at)

entry_found : (ended : List (List AlignKind)) (index tables : ℕ) (name : Name) (start : Point)
    (children : Forest) → (is_table name ≡ true →
    slice_get ended (tables_after tables children) ≡ Some (alignments children)) →
    IsFound ended (entry_row index tables name (entering name start) children)
entry_found ended index tables name start children there other e = grind arith

-- the tables of some nodes, after as many others
abbrev HasTables : List (List AlignKind) → ℕ → ℕ → Forest → Type 0
HasTables ended index tables nodes =
    (before : List (List AlignKind)) × (later : List (List AlignKind)) × (length before ≡ tables)
    × (ended ≡ before ++ (tables_of nodes ++ later))

rows_found : (ended : List (List AlignKind)) (forest : Forest) (index tables : ℕ) →
    HasTables ended index tables forest → All (IsFound ended) (rows_of index tables forest)
rows_found ended = rows_all (IsFound ended) (HasTables ended)
    (λ index tables name start end children rest holds.
    let before = holds.0 ++ tables_of children in
    let own = cond (is_table name) (alignments children ∷ []) [] in
    let after = tables_of rest ++ holds.1 in
    let counted = length_tables children tables holds.0 holds.2 in
    let is_own : ended ≡ before ++ (own ++ after) = holds.3 ∙ simp append_assoc in (
      entry_found ended index tables name start children
          (λ is. ap (λ ts. slice_get ts (tables_after tables children)) is_own
          ∙ table_there name before after (alignments children) _ counted is),
      λ other none. cc,
      (holds.0, own ++ after, holds.2, holds.3 ∙ simp append_assoc),
      (before ++ own, holds.1, length_table name _ _ _ counted, holds.3 ∙ simp append_assoc),
    ))

-- an entry has children
abbrev HasChildren : Row → Type 0
HasChildren row = row.event.kind ≡ Enter → (children : Forest) × (row.children ≡ Some children)

rows_have : (forest : Forest) (index tables : ℕ) → All HasChildren (rows_of index tables forest)
rows_have forest index tables = rows_all HasChildren (λ index tables nodes. Unit {0})
    (λ index tables name start end children rest holds.
    (λ e. (children, refl), λ e. cc, tt, tt)) forest index tables tt

pub got_inside : {A : Type 0} (xs : List A) (index : ℕ) (x : A) →
    slice_get xs index ≡ Some x → index < length xs
got_inside xs index x e = slice_get_within xs index x e

-- the partners, wherever the index is
pub partners_there : (forest : Forest) (events : List Event) (facts : List Fact) (index : ℕ) →
    flatten forest ≡ events → facts ≡ facts_at events → option_map (λ (f : Fact). f.partner)
    (slice_get facts index) ≡ slice_get (partners_of 0 forest) index
partners_there forest events facts index flattened is =
    sym (slice_get-map (λ (f : Fact). f.partner) facts index)
    ∙ ap (λ fs. slice_get (map (λ (f : Fact). f.partner) fs) index)
    (is ∙ facts-flatten forest events flattened)
    ∙ ap (λ ps. slice_get ps index) (partners forest 0 0)
  where
    partners : (forest : Forest) (index tables : ℕ) →
        map (λ (f : Fact). f.partner) (facts_of index tables forest) ≡ partners_of index forest
    partners Empty index tables = refl
    partners (Node name start end children rest) index tables =
        grind (arith, partners children, partners rest, map-append)

-- the row of an event of a document
pub record RowAt (given : Handed) (forest : Forest) (index : ℕ) (event : Event) : Type 1 where
  pub row : Row
  pub said : (P : Row → Type 0) → All P (rows_of 0 0 forest) → P row
  pub event_is : row.event ≡ event
  pub index_is : row.index ≡ index
  pub fact_is : slice_get (facts_at given.events) index ≡ Some row.fact
  pub children_are : slice_get (children_of forest) index ≡ Some row.children
  pub position_is : slice_get (positions_of forest) index ≡ Some row.position

column_got : {A : Type 0} (f : Row → A) (rows : List Row) (column : List A) (index : ℕ)
    (row : Row) → map f rows ≡ column →
    slice_get rows index ≡ Some row → slice_get column index ≡ Some (f row)
column_got f rows column index row same got = grind (arith, slice_get-map)

pub row_at : (given : Handed) (forest : Forest) (index : ℕ) (event : Event) →
    flatten forest ≡ given.events → slice_get given.events index ≡ Some event →
    RowAt given forest index event
row_at given forest index event flattened here =
    let rows = rows_of 0 0 forest in
    let past = entry_row index 0 event.name event forest in
    let row = get_or rows index past in
    let events_are = event_rows forest 0 0 ∙ flattened in
    let facts_are = fact_rows forest 0 0 ∙ sym (facts-flatten forest given.events flattened) in
    let long = sym (length-map rows (λ (r : Row). r.event)) ∙ ap length events_are in
    let within = slice_get_within given.events index event here in
    let inside : index < length rows = omega arith in
    let got = slice_get-get_or rows index past inside in
    let there = column_got (λ (r : Row). r.event) rows given.events index row events_are got in
    let none : 0 + index ≡ index = omega arith in
    record {
      row = row;
      said = λ P all. all index past inside;
      event_is = cc (there, here);
      index_is = numbered_get rows 0 (index_after 0 forest) index past (numbered_rows forest 0 0)
          inside ∙ none;
      fact_is = column_got (λ (r : Row). r.fact) rows _ index row facts_are got;
      children_are =
          column_got (λ (r : Row). r.children) rows _ index row (children_rows forest 0 0) got;
      position_is =
          column_got (λ (r : Row). r.position) rows _ index row (position_rows forest 0 0) got;
    }

-- at an index that enters a node
module _ (given : Handed) (index : ℕ) (name : Name)
    (enters : EntersAt given.events index name) where
  pub EntersNode-entered : (forest : Forest) → flatten forest ≡ given.events →
      EntersNode given index
  EntersNode-entered forest flattened =
      let here = row_at given forest index enters.0 flattened enters.1 in
      let has = here.said HasChildren (rows_have forest 0 0) (ap Event.kind here.event_is
      ∙ enters.2) in
      (has.0, (forest, flattened, here.children_are ∙ ap Some has.1))

  -- what is found there
  pub found-entered : (children : Forest) (fact : Fact) → IsEnteredAt given index children →
      slice_get (facts_at given.events) index ≡ Some fact →
      (tables : ℕ) × (fact ≡ fact_at index tables name children)
      × (is_table name ≡ true → slice_get (tables_at given.events) (tables_after tables children)
      ≡ Some (alignments children))
  found-entered children fact entered got =
      let forest = entered.0 in
      let here = row_at given forest index enters.0 entered.1 enters.1 in
      let row = here.row in
      let is_ended = tables-flatten forest given.events entered.1 ∙ sym (append-nil _) in
      let children_are : row.children ≡ Some children = cc (here.children_are, entered.2) in
      let fact_is : row.fact ≡ fact = cc (here.fact_is, got) in
      let name_is = ap Event.name here.event_is ∙ enters.3 in
      let there = here.said (IsFound (tables_at given.events))
      (rows_found (tables_at given.events) forest 0 0 ([], [], refl, is_ended))
      children children_are in (
        there.0,
        sym fact_is ∙ there.1 ∙ ap (λ i. fact_at i there.0 row.event.name children) here.index_is
            ∙ ap (λ n. fact_at index there.0 n children) name_is,
        λ is. there.2 (ap is_table name_is ∙ is),
      )

  pub facts_at-inside : (forest : Forest) → flatten forest ≡ given.events →
      index < length (facts_at given.events)
  facts_at-inside forest flattened =
      let here = row_at given forest index enters.0 flattened enters.1 in
      slice_get_within (facts_at given.events) index here.row.fact here.fact_is
