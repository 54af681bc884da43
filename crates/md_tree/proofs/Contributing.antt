-- The last contributing child that the pass finds is that of the definition.
use Rattle.std.proofs.Common.{arith, ◌≡◌, ℕ, suc, refl}
use Rattle.md_tree.proofs.Common.{unwrap_or, Forest, Empty, Node, contributing_over}
use Rattle.md_tree.proofs.Common.{index_if}
use Rattle.md_pattern.specs.Partners.{last_contributing_at}

contributing-over : (forest : Forest) (index before : ℕ) →
    contributing_over index forest before ≡ unwrap_or (last_contributing_at index forest) before
contributing-over Empty index before = refl
contributing-over (Node name start end children rest) index before =
    grind (arith, contributing-over rest)

-- an index that is found after another isn't zero
there : (forest : Forest) (index : ℕ) →
    index_if (unwrap_or (last_contributing_at (suc index) forest) 0)
    ≡ last_contributing_at (suc index) forest
there Empty index = refl
there (Node name start end children rest) index = grind (arith, there rest)

pub contributing-found : (children : Forest) (index : ℕ) →
    index_if (contributing_over (suc index) children 0) ≡ last_contributing_at (suc index) children
contributing-found children index = grind (arith, contributing-over, there)
