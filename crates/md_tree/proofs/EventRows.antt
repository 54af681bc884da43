-- The events of a document in rows, each with what is found at it, its node's children and place.
use Rattle.std.proofs.Common.{◌≡◌, ℕ, suc, ◌+◌, ◌<◌, Option, Some, None, List, [], ◌∷◌, ◌++◌}
use Rattle.std.proofs.Common.{length, get_or, refl, sym, subst, arith}
use Rattle.md_tree.proofs.Common.{All, All-cons, All-append, All-nil, map, map-append, Point}
use Rattle.md_tree.proofs.Common.{Position, Name, Event, Fact, Forest, Empty, Node, flatten}
use Rattle.md_tree.proofs.Common.{entering, exiting, place, positions_of, children_of, index_after}
use Rattle.md_tree.proofs.Common.{partner_alone, tables_with, tables_after, fact_at, facts_of}

-- an event, its index, what is found at it, at an entry the node's children, and at an exit
-- where the node lies
pub record Row : Type 0 where
  pub event : Event
  pub children : Option Forest
  pub index : ℕ
  pub fact : Fact
  pub position : Option Position

abbrev pub entry_row : ℕ → ℕ → Name → Event → Forest → Row
entry_row index tables name event children =
    record {
      event = event;
      children = Some children;
      index = index;
      fact = fact_at index tables name children;
      position = None;
    }

abbrev pub exit_row : ℕ → ℕ → Name → Point → Point → Row
exit_row index entry name start end = record {
  event = exiting name end;
  children = None;
  index = index;
  fact = partner_alone entry;
  position = Some (place start end);
}

abbrev pub rows_of : ℕ → ℕ → Forest → List Row
rows_of index tables Empty = []
rows_of index tables (Node name start end children rest) =
    entry_row index tables name (entering name start) children ∷ rows_of (suc index) tables children
    ++ exit_row (index_after (suc index) children) index name start end
    ∷ rows_of (suc (index_after (suc index) children))
    (tables_with name (tables_after tables children)) rest

-- a claim about nodes gives what is said of each one's two rows, and passes to its children and to
-- the nodes after it
abbrev pub Steps : (Row → Type 0) → (ℕ → ℕ → Forest → Type 0) → Type 0
Steps said claim =
    (index tables : ℕ) (name : Name) (start end : Point) (children rest : Forest) →
    claim index tables (Node name start end children rest) →
    said (entry_row index tables name (entering name start) children)
    × said (exit_row (index_after (suc index) children) index name start end)
    × claim (suc index) tables children × claim (suc (index_after (suc index) children))
    (tables_with name (tables_after tables children)) rest

-- so it is said of all rows
pub rows_all : (said : Row → Type 0) (claim : ℕ → ℕ → Forest → Type 0) → Steps said claim →
    (forest : Forest) (index tables : ℕ) → claim index tables forest →
    All said (rows_of index tables forest)
rows_all said claim step Empty index tables holds = All-nil said
rows_all said claim step (Node name start end children rest) index tables holds =
    let exit = index_after (suc index) children in
    let more = tables_with name (tables_after tables children) in
    let parts = step index tables name start end children rest holds in
    let last = exit_row exit index name start end in
    All-cons said _ (rows_of (suc index) tables children ++ last ∷ rows_of (suc exit) more rest)
    parts.0 (All-append said (rows_of (suc index) tables children)
    (last ∷ rows_of (suc exit) more rest)
    (rows_all said claim step children (suc index) tables parts.2)
    (All-cons said last (rows_of (suc exit) more rest) parts.1
    (rows_all said claim step rest (suc exit) more parts.3)))

-- a column of the rows, if the claim holds for each node
module _ {A : Type 0} (of_row : Row → A) (column : ℕ → ℕ → Forest → List A)
    (at_end : (index tables : ℕ) →
    column index tables Empty ≡ []) (at_node : (index tables : ℕ) (name : Name) (start end : Point)
    (children rest : Forest) → column index tables (Node name start end children rest)
    ≡ of_row (entry_row index tables name (entering name start) children) ∷ (column (suc index)
    tables children ++ of_row (exit_row (index_after (suc index) children) index name start end)
    ∷ column (suc (index_after (suc index) children))
    (tables_with name (tables_after tables children)) rest)) where
  pub column_rows : (forest : Forest) (index tables : ℕ) →
      map of_row (rows_of index tables forest) ≡ column index tables forest
  column_rows Empty index tables = sym (at_end index tables)
  column_rows (Node name start end children rest) index tables =
      grind (arith, column_rows children, column_rows rest, map-append)

pub event_rows : (forest : Forest) (index tables : ℕ) →
    map (λ (r : Row). r.event) (rows_of index tables forest) ≡ flatten forest
event_rows = column_rows (λ (r : Row). r.event) (λ index tables forest. flatten forest)
    (λ index tables. refl) (λ index tables name start end children rest. refl)

pub children_rows : (forest : Forest) (index tables : ℕ) →
    map (λ (r : Row). r.children) (rows_of index tables forest) ≡ children_of forest
children_rows = column_rows (λ (r : Row). r.children) (λ index tables forest. children_of forest)
    (λ index tables. refl) (λ index tables name start end children rest. refl)

pub fact_rows : (forest : Forest) (index tables : ℕ) →
    map (λ (r : Row). r.fact) (rows_of index tables forest) ≡ facts_of index tables forest
fact_rows = column_rows (λ (r : Row). r.fact) facts_of (λ index tables. refl)
    (λ index tables name start end children rest. refl)

pub position_rows : (forest : Forest) (index tables : ℕ) →
    map (λ (r : Row). r.position) (rows_of index tables forest) ≡ positions_of forest
position_rows = column_rows (λ (r : Row). r.position) (λ index tables forest. positions_of forest)
    (λ index tables. refl) (λ index tables name start end children rest. refl)

-- rows have their indices, from the first one up to the next
abbrev pub Numbered : ℕ → List Row → ℕ → Type 0
Numbered index [] next = index ≡ next
Numbered index (row ∷ rows) next = (row.index ≡ index) × Numbered (suc index) rows next

numbered_append : (xs ys : List Row) (index middle next : ℕ) → Numbered index xs middle →
    Numbered middle ys next → Numbered index (xs ++ ys) next
numbered_append [] ys index middle next p q = subst (λ n. Numbered n ys next) (sym p) q
numbered_append (row ∷ xs) ys index middle next p q = grind (arith, numbered_append xs)

pub numbered_rows : (forest : Forest) (index tables : ℕ) →
    Numbered index (rows_of index tables forest) (index_after index forest)
numbered_rows Empty index tables = refl
numbered_rows (Node name start end children rest) index tables =
    grind (arith, numbered_rows children, numbered_rows rest, numbered_append)

pub numbered_get : (rows : List Row) (index next i : ℕ) (d : Row) →
    Numbered index rows next → i < length rows → Row.index (get_or rows i d) ≡ index + i
numbered_get [] index next i d p inside = absurd (omega arith)
numbered_get (row ∷ rows) index next i d p inside = grind (arith, numbered_get rows)
