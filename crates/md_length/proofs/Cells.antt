-- The cells of tables' rows are bounded by what work counts for them: after a table's columns are
-- known, each row counts all of them, and its head has one row before.
use Rattle.std.proofs.Common.{◌≡◌, ℕ, ◌+◌, ◌*◌, ◌≤◌, Bool, true, false, List, ◌∷◌, ◌++◌, length}
use Rattle.std.proofs.Common.{refl, ◌∙◌, arith, append_assoc}
use Rattle.std.specs.Prelude.{if◌then◌else◌}
use Rattle.std.proofs.lemmas.List.{length-append}
use Rattle.md_base.specs.declared.event.AlignKind.{AlignKind}
use Rattle.md_base.specs.declared.event.Event.{Event}
use Rattle.md_base.specs.declared.event.Name.TheVariants as name_variants
use name_variants.{GfmTable}
use Rattle.md_base.specs.Is.{is}
use Rattle.md_base.specs.Tree.{Forest, Empty, Node, flatten, exiting}
use Rattle.md_pattern.specs.Alignments.{alignments}
use Rattle.md_steps.specs.Content.{Content, Blocks, Rows, Fits, content_inside, content_after_node}
use Rattle.md_steps.proofs.Staying.{node-same}
use Rattle.md_length.specs.Costs.{nodes}
use Rattle.md_length.proofs.Pieces.{either-number}
use Rattle.md_length.specs.Uses.{cells}
use Rattle.md_length.specs.Work.{is_column, cells as counted}

-- ---- where no table stands
abbrev pub is_inner : Content → Bool
is_inner content = elim content [ Blocks ↦ false | _ ↦ true ]

-- and no row
abbrev pub is_rowless : Content → Bool
is_rowless content = elim content [ Blocks ↦ false | Rows ↦ false | _ ↦ true ]

-- ---- how many columns are entered
abbrev pub values : Forest → ℕ
values Empty = 0
values (Node name start end children rest) =
    (if is_column name then 1 else 0) + values children + values rest

pub values-few : (forest : Forest) → values forest ≤ nodes forest
values-few Empty = omega arith
values-few (Node name start end children rest) =
    omega (arith, either-number, values-few children, values-few rest)

pub aligned-few : (forest : Forest) → length (alignments forest) ≤ values forest
aligned-few Empty = omega arith
aligned-few (Node name start end children rest) =
    grind (arith, aligned-few children, aligned-few rest, length-append)

-- ---- rows after their columns are known
pub rows-counted : (content : Content) (columns : List AlignKind) (k after : ℕ) (forest : Forest)
    (tail : List Event) → is_inner content ≡ true → Fits content forest → length columns ≤ k →
    after ≡ k + values forest →
    5 * cells columns forest + counted after tail ≤ counted k (flatten forest ++ tail)
rows-counted content columns k after Empty tail inner fits few e = grind arith
rows-counted content columns k after (Node name start end children rest) tail inner fits few e =
    let known : (is GfmTable name ≡ false) × (is_inner (content_inside content name) ≡ true) =
    grind arith in
    let begun : ℕ = (if is_column name then 1 else 0) + k in
    let middle : ℕ = begun + values children in
    grind (
      arith,
      append_assoc,
      known,
      rows-counted (content_inside content name) columns begun middle children
          (exiting name end ∷ (flatten rest ++ tail)) known.1 fits.1 (omega arith) refl,
      rows-counted (content_after_node content name children) columns middle after rest tail
          (node-same is_inner (λ content. grind arith) content name children ∙ inner) fits.2
          (omega arith) (omega arith),
    )

pub no-cells : (content : Content) (columns : List AlignKind) (forest : Forest) →
    is_rowless content ≡ true → Fits content forest → cells columns forest ≡ 0
no-cells content columns Empty h fits = refl
no-cells content columns (Node name start end children rest) h fits =
    let inside : is_rowless (content_inside content name) ≡ true = grind arith in
    grind (
      arith,
      no-cells (content_inside content name) columns children inside fits.1,
      no-cells (content_after_node content name children) columns rest
          (node-same is_rowless (λ content. grind arith) content name children ∙ h) fits.2,
    )
