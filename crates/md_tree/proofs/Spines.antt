-- The spine of shaped nodes is the same by names and by symbols.
use Rattle.std.proofs.Common.{arith, ◌≡◌, Option, List, [], ◌∷◌, ◌++◌, refl}
use Rattle.std.proofs.Common.{append_assoc}
use Rattle.md_tree.proofs.Common.{Name, Symbol, Role, Forest, Empty, Node}
use Rattle.md_tree.proofs.Common.{spine, AreShaped}
use Rattle.md_base.specs.Children.{spine_names}
use Rattle.md_tree.specs.Laws.{symbols_of}

appended : (names others : List Name) →
    symbols_of (names ++ others) ≡ symbols_of names ++ symbols_of others
appended [] others = refl
appended (name ∷ names) others = grind (arith, appended names others, append_assoc)

pub spine-names : (forest : Forest) (around : Role) (before : Option Symbol) →
    AreShaped forest around before → spine forest ≡ symbols_of (spine_names forest)
spine-names Empty around before shaped = refl
spine-names (Node name start end children rest) around before shaped =
    grind (arith, appended, spine-names children, spine-names rest)
