-- What a document's definitions define, each from its own events.
use Rattle.std.proofs.lemmas.Bool.{cases_Bool}
use Rattle.std.proofs.Common.{inl, inr, ◌≡◌, ℕ, zero, suc, ◌-◌, Bool, true, false, ◌&&◌, not, Some}
use Rattle.std.proofs.Common.{List, [], ◌∷◌, ◌++◌, length, take, refl, sym, ap, ◌∙◌, subst}
use Rattle.std.proofs.Common.{append-nil, arith, drop_at}
use Rattle.std.proofs.Math.Seq.{take-append_seam}
use Rattle.std.specs.Prelude.{slice_get, if◌then◌else◌, map, option_map, filter}
use Rattle.std.proofs.lemmas.List.{length-map, map-append}
use Rattle.std.proofs.lemmas.List.Elements.{filter-append}
use Rattle.std.proofs.lemmas.Option.{slice_get-map, slice_get_within}
use Rattle.md_base.specs.declared.event.Name.{Name}
use Rattle.md_base.specs.declared.event.Name.TheVariants.{Definition}
use Rattle.md_base.specs.Children.{is_empty}
use Rattle.md_base.specs.NameTests.{is_link_definition}
use Rattle.md_base.specs.Tree.{Forest, Empty, Node, flatten, entering, exiting}
use Rattle.md_pattern.specs.Partners.{index_after, definition_entries}
use Rattle.md_pattern.proofs.CountedFacts.{length_one}
use Rattle.md_meaning.specs.Meaning.At.{Defined, Context, Target, identifier_of}
use Rattle.md_content.specs.Built.{Blocks}
use Rattle.md_content.specs.References.{Everywhere}
use Rattle.md_content.proofs.Grammatical.{grammatical-built}
use Rattle.md_tree.specs.Grammar.{Handed, IsChecked}
use Rattle.md_steps.specs.State.{State, facts_of}
use Rattle.md_steps.specs.Steps.{entered, is_passed, over, beginning}
use Rattle.md_steps.specs.Run.{Noticed, noticed, run, defined}
use Rattle.md_steps.proofs.Running.{noticed-length, run-over}
use Rattle.md_facts.specs.NodeFacts.{IsNoticedAt}
use Rattle.md_facts.specs.Definitions.{within, own_defined}
use Rattle.md_facts.proofs.FoundLemmas.{grammatical-there}
use Rattle.md_facts.proofs.Nodes.{NodeAt, entry_row, node-of, row-paired, unmapped}
use Rattle.md_facts.proofs.Noticed.{noticed_in, noticed-same}
use Rattle.md_facts.proofs.Rows.{Row, row_of, rows_of}
use Rattle.md_facts.proofs.PairedRows.{Paired}
use Rattle.md_facts.proofs.Undefined.{Free, IsFreeInside, built-frees}

-- ---- definitions are those of rows
abbrev defines : Row → Bool
defines row = not row.enters && is_passed row.name

abbrev defined_at : Context → Row → Defined
defined_at alone row = record {
  identifier = identifier_of alone.bytes row.children;
  target = (over alone false row.children (entered alone
      (facts_of alone.bytes false row.children row.start row.end) Definition beginning)).target;
}

-- the rows that define something, and a part of each
abbrev picked : {A : Type 0} → (Row → A) → List Row → List A
picked of rows = map of (filter defines rows)

picked-append : {A : Type 0} (of : Row → A) (xs : List Row) (row : Row) (ys : List Row) →
    picked of (xs ++ row ∷ ys)
    ≡ picked of xs ++ (if defines row then of row ∷ picked of ys else picked of ys)
picked-append of xs row ys = grind (arith, filter-append, map-append)

picked-there : (rows : List Row) (place : ℕ) (row : Row) →
    slice_get (filter defines rows) place ≡ Some row → (at : ℕ) × (slice_get rows at ≡ Some row)
picked-there [] place row e = absurd (omega (arith, slice_get_within [] place row e))
picked-there (one ∷ rows) zero row e = elim (cases_Bool (defines one)) [
  | inl is ↦ (0, rw is at e)
  | inr off ↦ (let later = picked-there rows 0 row (rw off at e) in (suc later.0, later.1))
]
picked-there (one ∷ rows) (suc p) row e = elim (cases_Bool (defines one)) [
  | inl is ↦ (let later = picked-there rows p row (rw is at e) in (suc later.0, later.1))
  | inr off ↦ (let later = picked-there rows (suc p) row (rw off at e) in (suc later.0, later.1))
]

one_first : {A : Type 0} (b : Bool) (x : A) (xs : List A) →
    (if b then x ∷ xs else xs) ≡ (if b then x ∷ [] else []) ++ xs
one_first b x xs = grind arith

passed_is : (name : Name) → is_passed name ≡ is_link_definition name
passed_is name = grind arith

entries-picked : (forest : Forest) (index : ℕ) (outermost : Bool) →
    picked (λ (row : Row). row.entry) (rows_of index outermost forest)
    ≡ definition_entries index forest
entries-picked Empty index outermost = refl
entries-picked (Node name start end children rest) index outermost =
    let inside = entries-picked children (suc index) in
    let later = entries-picked rest in
    grind (arith, picked-append, one_first, passed_is, inside, later)

none-picked : {A : Type 0} (of : Row → A) (forest : Forest) (index : ℕ) (outermost : Bool) →
    Free forest →
    picked of (rows_of index outermost forest) ≡ []
none-picked of Empty index outermost free = refl
none-picked of (Node name start end children rest) index outermost free =
    let inside = none-picked of children (suc index) false free.1 in
    let later = none-picked of rest (suc (index_after (suc index) children)) outermost free.2 in
    grind (arith, picked-append, inside, later, free.0)

defined-picked : (alone : Context) (forest : Forest) (index : ℕ) (outermost : Bool) →
    Everywhere IsFreeInside forest →
    picked (defined_at alone) (rows_of index outermost forest) ≡ defined alone forest
defined-picked alone Empty index outermost frees = refl
defined-picked alone (Node name start end children rest) index outermost frees =
    picked-append (defined_at alone) inner closing after ∙ ap (λ xs.
    picked (defined_at alone) inner ++ (if is_passed name then defined_at alone closing ∷ xs
    else xs)) (defined-picked alone rest (suc exit) outermost frees.2) ∙ by (is_passed name) refl
    (λ h. none-picked (defined_at alone) children (suc index) false (frees.0 h))
    (defined-picked alone children (suc index) false frees.1)
  where
    exit : ℕ
    exit = index_after (suc index) children

    closing : Row
    closing = row_of false index (outermost && is_empty rest) name start end children

    inner : List Row
    inner = rows_of (suc index) false children

    after : List Row
    after = rows_of (suc exit) outermost rest

    own : Defined
    own = defined_at alone closing

    by : (b : Bool) → is_passed name ≡ b →
        (is_passed name ≡ true → picked (defined_at alone) inner ≡ []) →
        picked (defined_at alone) inner ≡ defined alone children →
        picked (defined_at alone) inner
        ++ (if b then own ∷ defined alone rest else defined alone rest)
        ≡ (if b then own ∷ [] else defined alone children) ++ defined alone rest
    by true h none same = ap (λ xs. xs ++ own ∷ defined alone rest) (none h)
    by false h none same = ap (λ xs. xs ++ defined alone rest) same

-- ---- what comes between the two events of a node
within-own : {A : Type 0} (before : List A) (first : A) (inner rest : List A) (index inside : ℕ) →
    length before ≡ index → inside ≡ suc (length inner) →
    within index inside ((before ++ first ∷ []) ++ (inner ++ rest)) ≡ inner
within-own before first inner rest index inside e f =
    let less : inside - 1 ≡ length inner = omega (arith, f) in
    ap (λ xs. take (inside - 1) xs) (drop_at (before ++ first ∷ []) (inner ++ rest) (suc index)
    (length_one before first ∙ ap suc e))
    ∙ ap (λ n. take n (inner ++ rest)) less ∙ take-append_seam inner rest

-- ---- each from its own events
own-at : (given : Handed) (document : Forest) (alone : Context)
    (name : Name) (entry exit : ℕ) (one : Noticed) (node : NodeAt given document name entry exit) →
    flatten document ≡ given.events → alone.bytes ≡ given.bytes →
    IsNoticedAt given entry one →
    defined_at alone
    (entry_row name node.start node.end node.children node.last entry exit)
    ≡ own_defined alone given.events (noticed given.bytes true document) entry one
own-at given document alone name entry exit one node flat same there =
    ap (λ bytes. record { identifier = identifier_of bytes node.children; target = target }) same
    ∙ ap (λ t. record { identifier = identifier_of given.bytes node.children; target = t })
    (ap (λ (s : State). s.target) (sym ran))
    ∙ ap (λ es. record {
      identifier = identifier_of given.bytes node.children;
      target = (run alone 0 es (noticed given.bytes false node.children) begun).target;
    }) (sym events)
    ∙ ap (λ es. record {
      identifier = identifier_of given.bytes node.children;
      target = (run alone 0 (within entry here.inside given.events) es begun).target;
    }) (sym seen)
    ∙ ap (own_defined alone given.events (noticed given.bytes true document) entry) (sym is)
  where
    here : Noticed
    here = noticed_in given document name entry exit node

    is : one ≡ here
    is = noticed-same given document entry one here flat there node.at_entry

    begun : State
    begun = entered alone (facts_of given.bytes node.last node.children node.start node.end)
        Definition beginning

    target : Target
    target = (over alone false node.children begun).target

    ran : run alone 0 (flatten node.children) (noticed given.bytes false node.children) begun
        ≡ over alone false node.children begun
    ran =
        ap (λ bytes. run alone 0 (flatten node.children) (noticed bytes false node.children) begun)
        (sym same) ∙ ap (λ es. run alone 0 es (noticed alone.bytes false node.children) begun)
        (sym (append-nil (flatten node.children)))
        ∙ ap (λ ts. run alone 0 (flatten node.children ++ []) ts begun)
        (sym (append-nil (noticed alone.bytes false node.children)))
        ∙ run-over alone false node.children [] [] begun

    events : within entry here.inside given.events ≡ flatten node.children
    events = ap (within entry here.inside) node.parts
        ∙ within-own node.before (entering name node.start) (flatten node.children)
        (exiting name node.end ∷ node.beyond) entry here.inside node.counted refl

    seen : within entry here.inside (noticed given.bytes true document)
        ≡ noticed given.bytes false node.children
    seen = ap (within entry here.inside) node.seen_parts ∙ within-own node.seen here
        (noticed given.bytes false node.children) (here ∷ node.unseen) entry here.inside
        node.seen_counted (ap suc (sym (noticed-length given.bytes false node.children)))

pub own-defined :
    (given : Handed) (document : Forest) (alone : Context) (index place : ℕ) (one : Noticed) →
    IsChecked given → flatten document ≡ given.events → alone.bytes ≡ given.bytes →
    slice_get (definition_entries 0 document) place ≡ Some index → IsNoticedAt given index one →
    slice_get (defined alone document) place
    ≡ Some (own_defined alone given.events (noticed given.bytes true document) index one)
own-defined given document alone index place one checked flat same got there =
    let rows : List Row = rows_of 0 true document in
    let (row, kept, is) = unmapped (λ (row : Row). row.entry) (filter defines rows) place index
    (ap (λ xs. slice_get xs place) (entries-picked document 0 true) ∙ got) in
    let (at, row_there) = picked-there rows place row kept in
    let pair : Paired rows at row = row-paired given document flat at row row_there in
    let node : NodeAt given document row.name row.entry row.exit =
    node-of given document flat row at pair in
    let frees = built-frees given.bytes Blocks document (grammatical-built given.bytes given.names
    document (grammatical-there given document checked flat)) in
    ap (λ xs. slice_get xs place) (sym (defined-picked alone document 0 true frees))
    ∙ slice_get-map (defined_at alone) (filter defines rows) place
    ∙ ap (option_map (defined_at alone)) kept
    ∙ ap (λ r. Some (defined_at alone r)) (some (sym pair.entry_at ∙ node.there))
    ∙ ap Some (own-at given document alone row.name row.entry row.exit one node flat same
    (subst (λ i. IsNoticedAt given i one) (sym is) there))
    ∙ ap (λ i. Some (own_defined alone given.events (noticed given.bytes true document) i one))
    is
  where
    some : {a b : Row} → Some a ≡ Some b → a ≡ b
    some e = cc

-- and their number is the same
pub own-length : (given : Handed) (document : Forest) (alone : Context) → IsChecked given →
    flatten document ≡ given.events →
    length (defined alone document) ≡ length (definition_entries 0 document)
own-length given document alone checked flat =
    let frees = built-frees given.bytes Blocks document (grammatical-built given.bytes given.names
    document (grammatical-there given document checked flat)) in
    let same = defined-picked alone document 0 true frees in
    let entries = entries-picked document 0 true in
    grind (arith, length-map, same, entries)
