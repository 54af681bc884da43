-- The cells of a document's tables are bounded by what work counts for them, and by its columns.
use Rattle.std.proofs.Common.{ℕ, suc, ◌+◌, ◌*◌, ◌≤◌, List, [], ◌∷◌, ◌++◌, ap, arith, append_assoc}
use Rattle.std.proofs.Common.{append-nil, Option, None}
use Rattle.md_base.specs.declared.event.Event.{Event}
use Rattle.md_base.specs.Is.{is}
use Rattle.md_base.specs.Tree.{Forest, Empty, Node, flatten, exiting}
use Rattle.md_pattern.specs.declared.kinds.Symbol.{Symbol}
use Rattle.md_pattern.specs.declared.kinds.Role.{Role}
use Rattle.md_pattern.specs.declared.kinds.Role.TheVariants as role
use Rattle.md_pattern.specs.Shape.{AreShaped, inner_before}
use Rattle.md_pattern.specs.Standing.{standing_of}
use Rattle.md_tree.specs.Grammar.{IsGrammatical}
use Rattle.md_steps.proofs.ContentFits.{shaped-fits}
use Rattle.md_steps.specs.Content.{Content, Blocks, Fits, content_inside, content_after_node}
use Rattle.md_length.specs.Uses.{cells}
use Rattle.md_length.specs.Work.{cells as counted}
use Rattle.md_length.proofs.Cells.{values}
use Rattle.md_length.proofs.TableRows.{cells-of-table}

-- the cells of a node are those of a table, or none are counted outside of one
document-cells : (content : Content) (forest : Forest) (around : Role) (before : Option Symbol)
    (k : ℕ) (tail : List Event) (other more : ℕ) → Fits content forest →
    AreShaped forest around before → ((k : ℕ) → other ≤ counted k tail + more) →
    5 * cells [] forest + other ≤ counted k (flatten forest ++ tail) + (more + 5 * values forest)
document-cells content Empty around before k tail other more fits shaped each =
    omega (arith, each k)
document-cells content (Node name start end children rest) around before k tail other more fits
    shaped each =
    let exit : List Event = exiting name end ∷ (flatten rest ++ tail) in
    let later : (k : ℕ) → 5 * cells [] rest + other
    ≤ counted k exit + (more + 5 * values rest) = λ k.
    omega (
      arith,
      document-cells (content_after_node content name children) rest _ _ k tail other
          more fits.2 shaped.2 each,
    ) in
    let inner = λ (k : ℕ). document-cells (content_inside content name) children _ _ k exit
    (5 * cells [] rest + other) (more + 5 * values rest) fits.1 shaped.1 later in
    grind (
      arith,
      append_assoc,
      later (values children),
      inner k,
      inner (suc k),
      cells-of-table children (inner_before (standing_of name) before) exit,
    )

-- the cells of a document's tables are bounded by what work counts for them, and by its columns
pub grammatical-cells : (bytes : List ℕ) (names : List (List ℕ × List ℕ)) (document : Forest) →
    IsGrammatical bytes names document →
    5 * cells [] document ≤ counted 0 (flatten document) + 5 * values document
grammatical-cells bytes names document is =
    omega (
      arith,
      document-cells Blocks document role.Flow None 0 [] 0 0
          (shaped-fits document is.shape) is.shape.0 (λ k. omega arith),
      ap (λ events. counted 0 events) (append-nil (flatten document)),
    )
