-- The rows of a table: the columns are known before each but the one of its head.
use Rattle.std.proofs.Common.{◌≡◌, ◌⊎◌, inl, inr, ℕ, ◌+◌, ◌*◌, ◌≤◌, Bool, true, List, [], ◌∷◌, ◌++◌}
use Rattle.std.proofs.Common.{length, refl, ap, ◌∙◌, subst, arith, append_assoc, Option}
use Rattle.std.specs.Prelude.{if◌then◌else◌}
use Rattle.std.specs.List.{list_all}
use Rattle.std.proofs.Math.Nat.{add-zero}
use Rattle.std.proofs.lemmas.Bool.{and_parts, and_from}
use Rattle.std.proofs.lemmas.List.{length-append}
use Rattle.std.proofs.lemmas.List.Folds.{list_all-append}
use Rattle.md_base.specs.declared.event.AlignKind.{AlignKind}
use Rattle.md_base.specs.declared.event.Event.{Event}
use Rattle.md_base.specs.declared.event.Name.{Name}
use Rattle.md_base.specs.declared.event.Name.TheVariants as name_variants
use name_variants.{GfmTableRow, GfmTableHead, GfmTableDelimiterCellValue}
use Rattle.md_base.specs.Is.{is}
use Rattle.md_base.specs.NameTests.{leads_to_values}
use Rattle.md_base.specs.Tree.{Forest, Empty, Node, flatten, entering, exiting}
use Rattle.md_pattern.specs.Alignments.{alignments, alignment_of}
use Rattle.md_pattern.specs.declared.kinds.Symbol.{Symbol}
use Rattle.md_pattern.specs.declared.kinds.Role.{Role}
use Rattle.md_pattern.specs.declared.kinds.Role.TheVariants as role
use Rattle.md_pattern.specs.Spine.{spine, shown, Matches}
use Rattle.md_pattern.specs.Shape.{AreShaped, IsStanding, inner_role, inner_before}
use Rattle.md_pattern.specs.Standing.{standing_of}
use Rattle.md_steps.specs.Content.{Rows, Fits, is_allowed, content_inside, content_after_node}
use Rattle.md_steps.proofs.Staying.{node-stays}
use Rattle.md_length.specs.Uses.{cells, columns_in}
use Rattle.md_length.specs.Work.{is_column, cells as counted}
use Rattle.md_length.proofs.Cells.{values, aligned-few, rows-counted, no-cells}
use Rattle.md_length.proofs.Spined.{in_table, in_head, is_ordered, for_rows, for_rows-append}
use Rattle.md_length.proofs.Spined.{table-ordered, head-letters, head-row}

-- what a node shows of its children, and the columns that it gives to the table around it
abbrev shows : Name → Forest → List Symbol
shows name children = shown (standing_of name) (spine children)

abbrev own_alignments : Name → Forest → List AlignKind
own_alignments name children =
    if is GfmTableDelimiterCellValue name then alignment_of children ∷ []
    else (if leads_to_values name then alignments children else [])

next-rows : (name : Name) (children rest : Forest) →
    Fits (content_after_node Rows name children) rest → Fits Rows rest
next-rows name children rest fits =
    subst (λ c. Fits c rest) (node-stays Rows name children refl) fits

all-parts : (test : Symbol → Bool) (xs ys : List Symbol) → list_all test (xs ++ ys) ≡ true →
    (list_all test xs ≡ true) × (list_all test ys ≡ true)
all-parts test xs ys h = grind (arith, list_all-append)

-- ---- the rows of a head
head-rows : (columns : List AlignKind) (forest : Forest) (around : Role) (before : Option Symbol) →
    Fits Rows forest → AreShaped forest around before → list_all in_head (spine forest) ≡ true →
    cells columns forest ≤ for_rows (length columns) (spine forest)
head-rows columns Empty around before fits shaped h = omega arith
head-rows columns (Node name start end children rest) around before fits shaped h =
    let parts = all-parts in_head (shows name children) (spine rest) h in
    grind (
      arith,
      for_rows-append,
      parts,
      no-cells (content_inside Rows name) columns children,
      λ (inside : Fits Rows children). head-rows columns children _ _ inside shaped.1,
      head-rows columns rest _ _ (next-rows name children rest fits.2) shaped.2 parts.1,
    )

-- ---- the rows of a table
-- after a head no columns follow
none-aligned : (forest : Forest) (around : Role) (before : Option Symbol) → Fits Rows forest →
    AreShaped forest around before → list_all in_table (spine forest) ≡ true →
    alignments forest ≡ []
none-aligned Empty around before fits shaped h = refl
none-aligned (Node name start end children rest) around before fits shaped h =
    let parts = all-parts in_table (shows name children) (spine rest) h in
    grind (
      arith,
      parts,
      λ (inside : Fits Rows children). none-aligned children _ _ inside shaped.1,
      none-aligned rest _ _ (next-rows name children rest fits.2) shaped.2 parts.1,
    )

-- an amount once, if the head has come
abbrev paid : ℕ → List Symbol → ℕ
paid amount [] = 0
paid amount (seen ∷ symbols) = amount

-- with the first symbols nothing has come, or the head, and then only what comes after it follows
abbrev Comes : List Symbol → List Symbol → Type 0
Comes xs ys = ((xs ≡ []) × (is_ordered ys ≡ true))
    ⊎ (((amount : ℕ) → (paid amount xs ≡ amount) × (paid amount (xs ++ ys) ≡ amount))
    × (list_all in_table ys ≡ true))

comes : (xs ys : List Symbol) → is_ordered (xs ++ ys) ≡ true → (is_ordered xs ≡ true) × Comes xs ys
comes [] ys h = (refl, inl (refl, h))
comes (x ∷ xs) ys h = grind (arith, all-parts, and_parts, and_from)

table-rows : (columns : List AlignKind) (forest : Forest) (around : Role) (before : Option Symbol)
    (k after : ℕ) (tail : List Event) → Fits Rows forest → AreShaped forest around before →
    is_ordered (spine forest) ≡ true →
    paid (length columns) (spine forest) ≤ k + length (alignments forest) →
    after ≡ k + values forest →
    5 * cells columns forest + counted after tail
    ≤ counted k (flatten forest ++ tail) + 5 * paid (length columns) (spine forest)
table-rows columns Empty around before k after tail fits shaped h few e =
    omega (arith, ap (λ n. counted n tail) (e ∙ add-zero k))
table-rows columns (Node name start end children rest) around before k after tail fits shaped h few
    e =
    let n : ℕ = length columns in
    let seen : List Symbol = shows name children in
    let own_columns : List AlignKind = own_alignments name children in
    let next : ℕ = k + ((if is_column name then 1 else 0) + values children) in
    let parts = comes seen (spine rest) h in
    let inner = λ (inside : Fits Rows children). table-rows columns children _ _ k next
    (exiting name end ∷ (flatten rest ++ tail)) inside shaped.1 in
    let here = own name fits.0 fits.1 shaped.1 shaped.0.1 parts.0 in
    let rest_fits = next-rows name children rest fits.2 in
    let sum = length-append own_columns (alignments rest) in
    let aligned : length own_columns ≤ (if is_column name then 1 else 0) + values children =
    grind (arith, aligned-few) in
    let split = append_assoc (flatten children) (exiting name end ∷ flatten rest) tail in
    rw split (elim parts.1 [
      | inl silent ↦
          let none = ap (paid n) silent.0 in
          let later = ap (λ xs. paid n (xs ++ spine rest)) silent.0 in
          omega (
            arith,
            none,
            later,
            here (omega (arith, none)) inner,
            table-rows columns rest _ _ next after tail rest_fits shaped.2 silent.1
                (omega (arith, later, few, sum, aligned)) (omega arith),
          )
      | inr begun ↦
          let none = ap length (none-aligned rest _ _ rest_fits shaped.2 begun.1) in
          let all = begun.0 n in
          omega (
            arith,
            all,
            here (omega (arith, all, few, sum, none)) inner,
            rows-counted Rows columns next after rest tail refl rest_fits
                (omega (arith, all, few, sum, none, aligned)) (omega arith),
          )
    ])
  where
    own : (name : Name) → is_allowed Rows name ≡ true → Fits (content_inside Rows name) children →
        AreShaped children (inner_role (standing_of name) around before)
        (inner_before (standing_of name) before) →
        IsStanding (standing_of name) around before children →
        is_ordered (shows name children) ≡ true →
        paid (length columns) (shows name children) ≤ k + length (own_alignments name children) →
        (Fits Rows children → is_ordered (spine children) ≡ true →
        paid (length columns) (spine children) ≤ k + length (alignments children) →
        k + ((if is_column name then 1 else 0) + values children) ≡ k + values children →
        5 * cells columns children
        + counted (k + ((if is_column name then 1 else 0) + values children))
        (exiting name end ∷ (flatten rest ++ tail))
        ≤ counted k (flatten children ++ exiting name end ∷ (flatten rest ++ tail))
        + 5 * paid (length columns) (spine children)) →
        5 * ((if is GfmTableRow name then length columns else 0)
        + cells (columns_in columns name children) children)
        + counted (k + ((if is_column name then 1 else 0) + values children)) (flatten rest ++ tail)
        ≤ counted k (entering name start
        ∷ (flatten children ++ exiting name end ∷ (flatten rest ++ tail)))
        + 5 * paid (length columns) (shows name children)
    own GfmTableHead may inside shaped stands h few inner =
        omega (
          arith,
          rows-counted Rows [] k (k + (0 + values children)) children
              (exiting GfmTableHead end ∷ (flatten rest ++ tail)) refl inside (omega arith)
              (omega arith),
          head-rows columns children _ _ inside shaped (head-letters (spine children) stands),
          head-row (length columns) (spine children) stands,
        )
    own name may inside shaped stands h few inner =
        grind (
          arith,
          inner,
          rows-counted Rows [] k (k + (0 + values children)) children
              (exiting name end ∷ (flatten rest ++ tail)) refl,
        )

-- the cells of a table
pub cells-of-table : (children : Forest) (before : Option Symbol) (tail : List Event) →
    Fits Rows children → AreShaped children role.Table before →
    Matches role.Table (spine children) →
    5 * cells (alignments children) children + counted (values children) tail
    ≤ counted 0 (flatten children ++ tail) + 5 * values children
cells-of-table children before tail fits shaped matches =
    grind (arith, table-rows, table-ordered, aligned-few)
