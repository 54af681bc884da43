-- Where the two rows of a node stand among all, and what holds of each node by its row.
use Rattle.std.proofs.Common.{◌≡◌, ℕ, zero, suc, ◌+◌, ◌==◌, Bool, true, false, ◌&&◌, Some, List, []}
use Rattle.std.proofs.Common.{◌∷◌, ◌++◌, length, refl, sym, ap, ◌∙◌, subst, append_assoc, arith}
use Rattle.std.proofs.Common.{ne_eqb}
use Rattle.std.specs.Prelude.{slice_get, if◌then◌else◌}
use Rattle.std.proofs.lemmas.List.{length-map, length-append}
use Rattle.std.proofs.lemmas.Option.{slice_get_within}
use Rattle.md_base.specs.declared.event.Name.{Name}
use Rattle.md_base.specs.declared.event.Point.{Point}
use Rattle.md_base.specs.Tree.{Forest, Empty, Node, flatten}
use Rattle.md_base.specs.Children.{is_empty}
use Rattle.md_pattern.specs.Partners.{index_after}
use Rattle.md_pattern.proofs.CountedFacts.{length_one}
use Rattle.md_tree.proofs.Entering.{get_at}
use Rattle.md_tree.proofs.Placing.{at_entry, in_node, after_node}
use Rattle.md_content.specs.References.{Everywhere}
use Rattle.md_facts.proofs.Rows.{Row, rows_of, event_of, event-rows, row_of}

-- ---- what is said of each row and its index, from an index up to the next one
abbrev Each : (ℕ → Row → Type 0) → ℕ → List Row → ℕ → Type 0
Each said index [] next = index ≡ next
Each said index (row ∷ rows) next = said index row × Each said (suc index) rows next

each-append : (said : ℕ → Row → Type 0) (xs ys : List Row) (index middle next : ℕ) →
    Each said index xs middle → Each said middle ys next → Each said index (xs ++ ys) next
each-append said [] ys index middle next p q = subst (λ n. Each said n ys next) (sym p) q
each-append said (row ∷ xs) ys index middle next p q =
    (p.0, each-append said xs ys (suc index) middle next p.1 q)

each-got : (said : ℕ → Row → Type 0) (rows : List Row) (index next i : ℕ) (row : Row) →
    Each said index rows next → slice_get rows i ≡ Some row → said (index + i) row
each-got said [] index next i row each got = absurd (omega (arith, slice_get_within [] i row got))
each-got said (one ∷ rows) index next zero row each got = grind arith
each-got said (one ∷ rows) index next (suc i) row each got =
    let more : suc index + i ≡ index + suc i = omega arith in
    subst (λ n. said n row) more (each-got said rows (suc index) next i row each.1 got)

-- ---- where the two rows of a node stand among all
abbrev pub is_nil : List Row → Bool
is_nil rows = elim rows [ [] ↦ true | row ∷ rows ↦ false ]

-- what is known of a row at an index
pub record Paired (all : List Row) (index : ℕ) (row : Row) : Type 0 where
  pub here : index ≡ (if row.enters then row.entry else row.exit)
  pub entry_at : slice_get all row.entry ≡ Some (record row { enters = true })
  pub exit_at : slice_get all row.exit ≡ Some (record row { enters = false })
  pub apart : row.exit ≡ row.entry + suc (length (flatten row.children))
  pub before : List Row
  pub beyond : List Row
  pub counted : length before ≡ row.entry
  pub parts : all ≡ (before ++ (record row { enters = true }) ∷ [])
      ++ (rows_of (suc row.entry) false row.children ++ ((record row { enters = false }) ∷ beyond))
  pub lasts : (suc row.exit == length all) ≡ row.last

rows-length : (forest : Forest) (index : ℕ) (outermost : Bool) →
    length (rows_of index outermost forest) ≡ length (flatten forest)
rows-length forest index outermost =
    sym (length-map (rows_of index outermost forest) event_of)
    ∙ ap (λ es. length es) (event-rows forest index outermost)

after-length : (forest : Forest) (index : ℕ) →
    index_after index forest ≡ index + length (flatten forest)
after-length Empty index = omega arith
after-length (Node name start end children rest) index =
    let inside = after-length children (suc index) in
    let later = after-length rest in
    grind (arith, length-append, inside, later)

-- nothing comes after a list's end
ends : (before after : List Row) (row : Row) (n : ℕ) → length before ≡ n →
    (suc n == length (before ++ row ∷ after)) ≡ is_nil after
ends before after row n e = grind (arith, length_one, length-append, ne_eqb)

last-nil : (rest : Forest) (index : ℕ) (outermost : Bool) (later : List Row) →
    is_nil later ≡ outermost →
    is_nil (rows_of index outermost rest ++ later) ≡ (outermost && is_empty rest)
last-nil rest index outermost later e = grind arith

paired-rows : (all : List Row) (forest : Forest) (index : ℕ) (outermost : Bool)
    (seen later : List Row) → length seen ≡ index → is_nil later ≡ outermost →
    all ≡ seen ++ (rows_of index outermost forest ++ later) →
    Each (Paired all) index (rows_of index outermost forest) (index_after index forest)
paired-rows all Empty index outermost seen later e nil same = refl
paired-rows all (Node name start end children rest) index outermost seen later e nil same = (
  own true index refl,
  each-append (Paired all) inner _ (suc index) exit _
      (paired-rows all children (suc index) false (seen ++ opening ∷ [])
      (closing ∷ (after ++ later)) one-seen refl inner-there) (
        own false exit refl,
        paired-rows all rest (suc exit) outermost
            (((seen ++ opening ∷ []) ++ inner) ++ closing ∷ []) later
            (length_one ((seen ++ opening ∷ []) ++ inner) closing ∙ ap suc inner-seen) nil
            (after_node all seen inner after later opening closing same),
      ),
)
  where
    exit : ℕ
    exit = index_after (suc index) children

    opening : Row
    opening = row_of true index (outermost && is_empty rest) name start end children

    closing : Row
    closing = row_of false index (outermost && is_empty rest) name start end children

    inner : List Row
    inner = rows_of (suc index) false children

    after : List Row
    after = rows_of (suc exit) outermost rest

    one-seen : length (seen ++ opening ∷ []) ≡ suc index
    one-seen = length_one seen opening ∙ ap suc e

    inner-seen : length ((seen ++ opening ∷ []) ++ inner) ≡ exit
    inner-seen =
        let both = length-append (seen ++ opening ∷ []) inner in
        let inside = rows-length children (suc index) false in
        let past = after-length children (suc index) in
        omega (arith, one-seen, both, inside, past)

    inner-there : all ≡ (seen ++ opening ∷ []) ++ (inner ++ (closing ∷ (after ++ later)))
    inner-there = in_node all seen inner after later opening closing same

    closing-there : all ≡ ((seen ++ opening ∷ []) ++ inner) ++ (closing ∷ (after ++ later))
    closing-there =
        inner-there ∙ sym (append_assoc (seen ++ opening ∷ []) inner (closing ∷ (after ++ later)))

    own : (b : Bool) (i : ℕ) → i ≡ (if b then index else exit) →
        Paired all i (row_of b index (outermost && is_empty rest) name start end children)
    own b i here = record {
      here = here;
      entry_at = ap (λ rows. slice_get rows index)
          (at_entry all seen inner after later opening closing same)
          ∙ get_at seen (inner ++ (closing ∷ (after ++ later))) opening index e;
      exit_at = ap (λ rows. slice_get rows exit) closing-there
          ∙ get_at ((seen ++ opening ∷ []) ++ inner) (after ++ later) closing exit inner-seen;
      apart = let past = after-length children (suc index) in omega (arith, past);
      before = seen;
      beyond = after ++ later;
      counted = e;
      parts = inner-there;
      lasts = ap (λ rows. suc exit == length rows) closing-there
          ∙ ends ((seen ++ opening ∷ []) ++ inner) (after ++ later) closing exit inner-seen
          ∙ last-nil rest (suc exit) outermost later nil;
    }

pub paired : (all : List Row) (forest : Forest) (outermost : Bool) → outermost ≡ true →
    all ≡ rows_of 0 outermost forest ++ [] → (i : ℕ) (row : Row) →
    slice_get (rows_of 0 outermost forest) i ≡ Some row → Paired all i row
paired all forest outermost is same i row got =
    let none : 0 + i ≡ i = omega arith in
    subst (λ n. Paired all n row) none (each-got (Paired all) (rows_of 0 outermost forest) 0
    (index_after 0 forest) i row (paired-rows all forest 0 outermost [] [] refl (sym is) same) got)

-- ---- what holds of each node
everywhere-rows : (holds : Name → Point → Point → Forest → Type 0) (forest : Forest) (index : ℕ)
    (outermost : Bool) → Everywhere holds forest →
    Each (λ i row. holds row.name row.start row.end row.children) index
    (rows_of index outermost forest) (index_after index forest)
everywhere-rows holds Empty index outermost all = refl
everywhere-rows holds (Node name start end children rest) index outermost all =
    let inside = everywhere-rows holds children (suc index) in
    let later = everywhere-rows holds rest in
    grind (arith, each-append, inside, later)

pub everywhere-at : (holds : Name → Point → Point → Forest → Type 0) (forest : Forest)
    (outermost : Bool) → Everywhere holds forest → (i : ℕ) (row : Row) →
    slice_get (rows_of 0 outermost forest) i ≡ Some row →
    holds row.name row.start row.end row.children
everywhere-at holds forest outermost all i row got =
    each-got (λ i row. holds row.name row.start row.end row.children) (rows_of 0 outermost forest) 0
    (index_after 0 forest) i row (everywhere-rows holds forest 0 outermost all) got
